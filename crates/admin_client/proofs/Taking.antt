-- Replies that are taken one after the other.
use Rattle.std.proofs.Common.{◌≡◌, ◌∙◌, ◌+◌, ◌<◌, ℕ, List, [], ◌∷◌, ◌++◌, length, Option, Ok, Err, refl, sym, ap, subst, arith}
use Rattle.link_ports.specs.Traffic.{Traffic}
use Rattle.std.specs.declared.alloc.AllocError.{AllocError}
use Rattle.wire_reading.specs.Stream.{Hears}
use Rattle.wire_fields.specs.declared.messages.Framed.{Framed}
use Rattle.wire_fields.specs.declared.messages.Message.{Message}
use Rattle.wire_fields.specs.declared.operations.Heard.TheVariants.{Replies}
use Rattle.wire_fields.specs.declared.refusals.WireRefusal.{WireRefusal}
use Rattle.wire_fields.specs.declared.refusals.WireRefusal.TheVariants.{TooShort, TooLong, BadOperation, BadField, Trailing, Memory}
use Rattle.client_connection.specs.Reading.{Receives}
use Rattle.client_connection.specs.Coming.{Comes}
use Rattle.client_connection.proofs.Receiving.{received_nothing}
use Rattle.client_core.specs.Listening.{unheard}
use Rattle.client_core.specs.Hearing.{fault_by}
use Rattle.client_core.specs.AdminCalls.{AreRows}
use Rattle.client_core.specs.AdminReplies.{IsRow, IsLast}
use Rattle.client_core.specs.Admin.{Admin, cut, with_row}
use Rattle.client_core.proofs.Staging.{more_rows}
use Rattle.client_core.specs.declared.stages.Exchange.{Exchange}
use Rattle.client_core.specs.declared.stages.AdminStage.TheVariants as stage
use Rattle.client_core.specs.declared.steps.Step.{Step}
use Rattle.client_core.specs.declared.steps.Step.TheVariants as step
use Rattle.client_core.specs.declared.steps.Fault.{Fault}
use Rattle.client_core.specs.declared.steps.Fault.TheVariants as fault
use Rattle.admin_client.specs.Answers.{TookBytes, IsRefused, IfUnavailable, IsNoAge, refusal_of}
use Rattle.admin_client.specs.parts.Talking.{Follows, Hears as HearsOn, Answers, Leaves}
use Rattle.admin_client.specs.declared.refusals.AdminRefusal.{AdminRefusal}
use Rattle.admin_client.specs.declared.refusals.AdminRefusal.TheVariants as refusal
use Rattle.admin_client.proofs.Hearing.{same_exchange}
use Rattle.admin_client.proofs.Rows.{IsTold, length_more, mapped_more, messages, one_more, refused_lost, refused_memory, refused_read, refused_reply, rows_length, told_as, took_more, whole_reply}

-- ---- what a step says

row_is : (m n : Message) → step.Row m ≡ step.Row n → n ≡ m
row_is m n is = cc

reply_is : (m n : Message) → step.Reply m ≡ step.Reply n → n ≡ m
reply_is m n is = cc

over_is : (f g : Fault) → step.Over f ≡ step.Over g → f ≡ g
over_is f g is = cc

row_reply : {X : Type 0} (m n : Message) → step.Row m ≡ step.Reply n → X
row_reply m n is = cc

reply_row : {X : Type 0} (m n : Message) → step.Reply m ≡ step.Row n → X
reply_row m n is = cc

row_over : {X : Type 0} (m : Message) (f : Fault) → step.Row m ≡ step.Over f → X
row_over m f is = cc

reply_over : {X : Type 0} (m : Message) (f : Fault) → step.Reply m ≡ step.Over f → X
reply_over m f is = cc

over_row : {X : Type 0} (f : Fault) (m : Message) → step.Over f ≡ step.Row m → X
over_row f m is = cc

over_reply : {X : Type 0} (f : Fault) (m : Message) → step.Over f ≡ step.Reply m → X
over_reply f m is = cc

-- ---- reply by reply

abbrev pub at_row : Exchange → ℕ → Exchange
at_row exchange n = record exchange { rows = n }

abbrev pub behind : Admin → Exchange → ℕ → Admin
behind old exchange n = record old { stage = stage.Waiting (at_row exchange n) (unheard Replies) }

-- what is known before each reply: those that were taken are rows, and no byte behind them was
pub record AreTaken (start now : Option Traffic) (old machine : Admin) (items : List Message) : Type 0 where
  pub exchange : Exchange
  pub was : old.stage ≡ stage.Waiting exchange (unheard Replies)
  pub rows : List Framed
  pub is : machine ≡ behind old exchange (length rows)
  pub are_items : items ≡ messages rows
  pub are_rows : AreRows exchange.wanted exchange.sequence 0 rows
  pub took : TookBytes (λ bytes. Hears Replies bytes rows []) start now

-- before the first one
pub none_taken : (start : Option Traffic) (old : Admin) (exchange : Exchange) → old.stage ≡ stage.Waiting exchange (unheard Replies)
    → exchange.rows ≡ 0 → AreTaken start start old old []
none_taken start old exchange was first = record {
  exchange = exchange;
  was = was;
  rows = [];
  is = λ i. record old { stage = (was ∙ ap (λ (n : ℕ). stage.Waiting (at_row exchange n) (unheard Replies)) first) i };
  are_items = refl;
  are_rows = tt;
  took = λ before told. ([], refl, received_nothing start before told);
}

-- the machine waits for a further one
pub waits_on : (start now : Option Traffic) (old machine : Admin) (items : List Message) → AreTaken start now old machine items
    → (exchange : Exchange) × (machine.stage ≡ stage.Waiting exchange (unheard Replies))
waits_on start now old machine items taken =
    (at_row taken.exchange (length taken.rows), ap (λ (c : Admin). c.stage) taken.is)

-- so many were taken
pub taken_length : (start now : Option Traffic) (old machine : Admin) (items : List Message) (taken : AreTaken start now old machine items)
    → length items ≡ length taken.rows
taken_length start now old machine items taken = ap length taken.are_items ∙ rows_length taken.rows

module _ (start mid end : Option Traffic) (trouble : Type 0) (old machine new : Admin) (items : List Message)
    (taken : AreTaken start mid old machine items) where
  abbrev there : Exchange
  there = at_row taken.exchange (length taken.rows)

  abbrev Heard : Step → Type 0
  Heard answer = HearsOn (λ result. Receives Replies result mid end) trouble there answer machine new

  abbrev pub Known : Step → Type 0
  Known answer = (exchange : Exchange) → machine.stage ≡ stage.Waiting exchange (unheard Replies)
      → HearsOn (λ result. Receives Replies result mid end) trouble exchange answer machine new

  heard_at : (answer : Step) → Known answer → Heard answer
  heard_at answer known = known there (ap (λ (c : Admin). c.stage) taken.is)

  -- a further row
  record IsFurther (m : Message) : Type 0 where
    framed : Framed
    message_is : framed.message ≡ m
    more : IsRow taken.exchange.wanted taken.exchange.sequence (length taken.rows) framed
    read : Receives Replies (Ok framed) mid end
    now : new ≡ record machine { stage = stage.Waiting (with_row there) (unheard Replies) }

  row_at : (m : Message) (framed : Framed) → Receives Replies (Ok framed) mid end → Follows there framed (step.Row m) machine new
      → IsFurther m
  row_at m framed read (Follows.row is a n) =
      record { framed = framed; message_is = row_is m framed.message a; more = is; read = read; now = n }
  row_at m framed read (Follows.last is a n) = row_reply m framed.message a
  row_at m framed read (Follows.wrong found is a n) = row_over m found a

  row : (m : Message) → Heard (step.Row m) → IsFurther m
  row m (Comes.whole framed read d) = row_at m framed read d
  row m (Comes.bad wrong read d) = row_over m (fault_by wrong) d.0
  row m (Comes.cut read d) = row_over m fault.Unavailable d.1

  taken_row : (m : Message) (all : List Message) → all ≡ items ++ m ∷ [] → IsFurther m → AreTaken start end old new all
  taken_row m all put r = record {
    exchange = taken.exchange;
    was = taken.was;
    rows = taken.rows ++ r.framed ∷ [];
    is =
        r.now
        ∙ (ap (λ (c : Admin). record c { stage = stage.Waiting (with_row there) (unheard Replies) }) taken.is
        ∙ ap (λ (n : ℕ). behind old taken.exchange n) (sym (length_more taken.rows r.framed)));
    are_items =
        put
        ∙ (ap (λ (n : Message). items ++ n ∷ []) (sym r.message_is)
        ∙ (ap (λ (ms : List Message). ms ++ r.framed.message ∷ []) taken.are_items ∙ sym (mapped_more taken.rows r.framed)));
    are_rows =
        one_more taken.exchange.wanted taken.exchange.sequence 0 (length taken.rows) taken.rows r.framed (omega arith) taken.are_rows r.more;
    took = took_more taken.rows r.framed start mid end taken.took r.read;
  }

  -- it stands behind the others, which are fewer than the most
  pub one_taken : (m : Message) (all : List Message) → all ≡ items ++ m ∷ [] → Known (step.Row m) → AreTaken start end old new all
  one_taken m all put known = taken_row m all put (row m (heard_at (step.Row m) known))

  pub fewer : (m : Message) → Known (step.Row m) → length items < 1048576
  fewer m known =
      let r = row m (heard_at (step.Row m) known) in
      let few : length taken.rows < 1048576 = more_rows taken.exchange.wanted taken.exchange.sequence (length taken.rows) r.framed r.more in
      let same = taken_length start mid old machine items taken in
      omega (arith, few, same)

  -- the exchange is the one that began
  same : (exchange : Exchange) → old.stage ≡ stage.Waiting exchange (unheard Replies) → taken.exchange ≡ exchange
  same exchange was = same_exchange taken.exchange exchange (sym taken.was ∙ was)

  -- no memory was found for the row
  pub row_refused : (m : Message) (error : AllocError) → Known (step.Row m) → (exchange : Exchange)
      → old.stage ≡ stage.Waiting exchange (unheard Replies)
      → Answers exchange.wanted exchange.sequence (Err (refusal.Memory error)) start end
  row_refused m error known exchange was =
      let r = row m (heard_at (step.Row m) known) in
      subst (λ (e : Exchange). Answers e.wanted e.sequence (Err (refusal.Memory error)) start end) (same exchange was)
      (refused_memory taken.exchange.wanted taken.exchange.sequence taken.rows r.framed error start mid end taken.are_rows taken.took r.read)

  -- the last reply
  record IsEnd (m : Message) : Type 0 where
    framed : Framed
    message_is : framed.message ≡ m
    whole : IsLast taken.exchange.wanted taken.exchange.sequence (length taken.rows) framed
    read : Receives Replies (Ok framed) mid end
    now : new ≡ record machine { stage = stage.Idle }

  last_at : (m : Message) (framed : Framed) → Receives Replies (Ok framed) mid end → Follows there framed (step.Reply m) machine new
      → IsEnd m
  last_at m framed read (Follows.row is a n) = reply_row m framed.message a
  last_at m framed read (Follows.last is a n) =
      record { framed = framed; message_is = reply_is m framed.message a; whole = is; read = read; now = n }
  last_at m framed read (Follows.wrong found is a n) = reply_over m found a

  last : (m : Message) → Heard (step.Reply m) → IsEnd m
  last m (Comes.whole framed read d) = last_at m framed read d
  last m (Comes.bad wrong read d) = reply_over m (fault_by wrong) d.0
  last m (Comes.cut read d) = reply_over m fault.Unavailable d.1

  pub last_answers : (m : Message) (all : List Message) → all ≡ items ++ m ∷ [] → Known (step.Reply m) → (exchange : Exchange)
      → old.stage ≡ stage.Waiting exchange (unheard Replies)
      → Answers exchange.wanted exchange.sequence (Ok all) start end
  last_answers m all put known exchange was =
      let l = last m (heard_at (step.Reply m) known) in
      let are_all : all ≡ messages (taken.rows ++ l.framed ∷ []) =
      put
      ∙ (ap (λ (n : Message). items ++ n ∷ []) (sym l.message_is)
      ∙ (ap (λ (ms : List Message). ms ++ l.framed.message ∷ []) taken.are_items ∙ sym (mapped_more taken.rows l.framed))) in
      subst (λ (e : Exchange). Answers e.wanted e.sequence (Ok all) start end) (same exchange was)
      (whole_reply taken.exchange.wanted taken.exchange.sequence taken.rows l.framed all start end taken.are_rows l.whole are_all
      (took_more taken.rows l.framed start mid end taken.took l.read))

  pub last_refused : (m : Message) (error : AllocError) → Known (step.Reply m) → (exchange : Exchange)
      → old.stage ≡ stage.Waiting exchange (unheard Replies)
      → Answers exchange.wanted exchange.sequence (Err (refusal.Memory error)) start end
  last_refused m error known exchange was =
      let l = last m (heard_at (step.Reply m) known) in
      subst (λ (e : Exchange). Answers e.wanted e.sequence (Err (refusal.Memory error)) start end) (same exchange was)
      (refused_memory taken.exchange.wanted taken.exchange.sequence taken.rows l.framed error start mid end taken.are_rows taken.took l.read)

  -- there is no answer
  pub record IsOver (found : Fault) : Type 0 where
    pub no_age : IsNoAge found
    pub now : new ≡ cut machine
    pub lost : IfUnavailable (refusal_of found) trouble
    pub refused : TookBytes (IsRefused taken.exchange.wanted taken.exchange.sequence (refusal_of found)) start end

  if_told : (found : Fault) (told : IsTold found) → IfUnavailable (refusal_of found) trouble
  if_told found told = subst (λ (r : AdminRefusal). IfUnavailable r trouble) (sym told.is) tt

  over_at : (found : Fault) (framed : Framed) → Receives Replies (Ok framed) mid end
      → Follows there framed (step.Over found) machine new → IsOver found
  over_at found framed read (Follows.row is a n) = over_row found framed.message a
  over_at found framed read (Follows.last is a n) = over_reply found framed.message a
  over_at found framed read (Follows.wrong other is a n) =
      let told = told_as taken.exchange.wanted taken.exchange.sequence (length taken.rows) framed other is in
      subst IsOver (sym (over_is found other a)) (record {
        no_age = told.no_age;
        now = n;
        lost = if_told other told;
        refused =
            subst (λ (r : AdminRefusal). TookBytes (IsRefused taken.exchange.wanted taken.exchange.sequence r) start end) (sym told.is)
            (refused_reply taken.exchange.wanted taken.exchange.sequence taken.rows framed other start end taken.are_rows is told
            (took_more taken.rows framed start mid end taken.took read));
      })

  no_age_by : (wrong : WireRefusal) → IsNoAge (fault_by wrong)
  no_age_by (TooShort n) = tt
  no_age_by (TooLong n) = tt
  no_age_by (BadOperation n) = tt
  no_age_by (BadField n) = tt
  no_age_by (Trailing n) = tt
  no_age_by (Memory error) = tt

  if_wrong : (wrong : WireRefusal) → IfUnavailable (refusal_of (fault_by wrong)) trouble
  if_wrong (TooShort n) = tt
  if_wrong (TooLong n) = tt
  if_wrong (BadOperation n) = tt
  if_wrong (BadField n) = tt
  if_wrong (Trailing n) = tt
  if_wrong (Memory error) = tt

  over : (found : Fault) → Heard (step.Over found) → IsOver found
  over found (Comes.whole framed read d) = over_at found framed read d
  over found (Comes.bad wrong read d) =
      subst IsOver (sym (over_is found (fault_by wrong) d.0)) (record {
        no_age = no_age_by wrong;
        now = d.1;
        lost = if_wrong wrong;
        refused = refused_read taken.exchange.wanted taken.exchange.sequence taken.rows wrong start mid end taken.are_rows taken.took read;
      })
  over found (Comes.cut read d) =
      subst IsOver (sym (over_is found fault.Unavailable d.1)) (record {
        no_age = tt;
        now = d.2;
        lost = d.0;
        refused = refused_lost taken.exchange.wanted taken.exchange.sequence taken.rows start mid end taken.are_rows taken.took read;
      })

  pub over_no_age : (found : Fault) → Known (step.Over found) → IsNoAge found
  over_no_age found known = (over found (heard_at (step.Over found) known)).no_age

  pub over_leaves : (found : Fault) → Known (step.Over found) → (said : AdminRefusal) → said ≡ refusal_of found
      → Leaves trouble (Err said) old new
  over_leaves found known said is =
      let o = over found (heard_at (step.Over found) known) in
      (o.now ∙ ap cut taken.is, subst (λ (r : AdminRefusal). IfUnavailable r trouble) (sym is) o.lost)

  pub over_answers : (found : Fault) → Known (step.Over found) → (said : AdminRefusal) → said ≡ refusal_of found → (exchange : Exchange)
      → old.stage ≡ stage.Waiting exchange (unheard Replies) → Answers exchange.wanted exchange.sequence (Err said) start end
  over_answers found known said is exchange was =
      let o = over found (heard_at (step.Over found) known) in
      subst (λ (e : Exchange). Answers e.wanted e.sequence (Err said) start end) (same exchange was)
      (subst (λ (r : AdminRefusal). TookBytes (IsRefused taken.exchange.wanted taken.exchange.sequence r) start end) (sym is) o.refused)
