-- What a client that keeps its answers does is an event.
use Rattle.std.proofs.Common.{◌≡◌, ◌⊎◌, inl, inr, ◌∙◌, ◌≤◌, ◌&&◌, ◌-◌, ◌==◌, not, ℕ, zero, suc, Bool, true, false, cond, List, [], ◌∷◌, length, take, max, Option, Some, None, Result, Ok, Err, refl, sym, ap, subst}
use Rattle.std.specs.Prelude.{slice_get, nat_le, MatchBool}
use Rattle.std.specs.List.{AllByRecursion}
use Rattle.std.specs.Map.{lookup, lookup_entry, remove_entry}
use Rattle.std.specs.Option.{option_map_or}
use Rattle.std.proofs.lemmas.Bool.{and_from, and_parts, eq-eqb, le-leb}
use Rattle.std.proofs.lemmas.Option.{none-some, same_Some, cond_some}
use Rattle.lru.specs.LruCache.{promoted}
use Rattle.cynara_keys.specs.Text.{same_text}
use Rattle.cynara_keys.specs.Key.{Question, same_question as same_key_question}
use Rattle.cynara_keys.proofs.Order.{same_text-≡, ≡-same_text}
use Rattle.cynara_keys.specs.PolicyResult.{is_agent}
use Rattle.bucket_eval.specs.declared.answers.Verdict.{Verdict}
use Rattle.answer_cache.specs.Cache.{Asked as CacheKey, Cache, empty_cache, same_asked, answer_in, if_not_older, used, kept as kept_in, without}
use Rattle.cynara_client.specs.State.{emptied}
use Rattle.cynara_client.specs.declared.refusals.Checked.{Checked}
use Rattle.cynara_client.specs.declared.refusals.ClientRefusal.{ClientRefusal}
use Rattle.cynara_client.specs.declared.refusals.Checked.TheVariants.{Judged as ByPolicies, FromAgent as ByAgent}
use Rattle.desk_world.specs.Client.{Client, unnamed}
use Rattle.desk_world.specs.World.{World, client_in, client_of, with_client, put_client}
use Rattle.desk_world.specs.Clients.{same_question, given, kept, delivered}
use Rattle.desk_world.specs.declared.clients.Slot.{Slot}
use Rattle.desk_world.specs.declared.events.Event.TheVariants.{Hit, Notice, Deliver, Tell}
use Rattle.desk_world.specs.declared.known.Known.{Known}
use Rattle.desk_world.specs.declared.links.Link.{Link}
use Rattle.desk_world.specs.declared.links.Transit.{Transit}
use Rattle.desk_world.specs.declared.replies.Reply.{Reply}
use Rattle.desk_world.specs.declared.replies.Reply.TheVariants.{Judged}
use Rattle.desk_world.proofs.Keeping.{client-put}
use Rattle.desk_world.proofs.Lists.{get-append, get-end}
use Rattle.event_laws.specs.Happens.{Happens}
use Rattle.event_laws.specs.Caching.{IsReceived, CacheStands, IsAsking, Says, KeepsBehind}
use Rattle.event_laws.proofs.Enabled.{some_enabled, when_enabled}

-- ---- entries of a cache

module _ {K X : Type 0} (P : K × X → Type 0) (test : K → Bool) where
  pub all_removed : (entries : List (K × X)) → AllByRecursion P entries → AllByRecursion P (remove_entry test entries)
  all_removed [] all = tt
  all_removed (e ∷ es) all = by_case (all_removed es all.1) (test e.0) where
    by_case : AllByRecursion P (remove_entry test es) → (b : Bool) → AllByRecursion P (cond b es (e ∷ remove_entry test es))
    by_case rest true = all.1
    by_case rest false = (all.0, rest)

  found_holds : (entries : List (K × X)) (e : K × X) → AllByRecursion P entries → lookup_entry test entries ≡ Some e → P e
  found_holds [] e all is = absurd (none-some e is)
  found_holds (x ∷ xs) e all is = by_case (found_holds xs e all.1) (test x.0) is where
    by_case : (lookup_entry test xs ≡ Some e → P e) → (b : Bool) → cond b (Some x) (lookup_entry test xs) ≡ Some e → P e
    by_case rest true is = subst P (same_Some x e is) all.0
    by_case rest false is = rest is

  pub all_promoted : (entries : List (K × X)) → AllByRecursion P entries → AllByRecursion P (promoted test entries)
  all_promoted entries all = by_case (lookup_entry test entries) refl where
    by_case : (found : Option (K × X)) → lookup_entry test entries ≡ found
        → AllByRecursion P (option_map_or (λ e. e ∷ remove_entry test entries) found entries)
    by_case None is = all
    by_case (Some e) is = (found_holds entries e all is, all_removed entries all)

  pub all_taken : (n : ℕ) (entries : List (K × X)) → AllByRecursion P entries → AllByRecursion P (take n entries)
  all_taken zero [] all = tt
  all_taken zero (e ∷ es) all = tt
  all_taken (suc n) [] all = tt
  all_taken (suc n) (e ∷ es) all = (all.0, all_taken n es all.1)

  -- what a look-up gives stands in an entry that passes
  pub looked_up : (entries : List (K × X)) (x : X) → AllByRecursion P entries → lookup test entries ≡ Some x
      → (key : K) × (test key ≡ true) × P (key, x)
  looked_up [] x all is = absurd (none-some x is)
  looked_up (e ∷ es) x all is = by_case (looked_up es x all.1) (test e.0) refl is where
    by_case : (lookup test es ≡ Some x → (key : K) × (test key ≡ true) × P (key, x)) → (b : Bool) → test e.0 ≡ b → cond b (Some e.1) (lookup test es) ≡ Some x → (key : K) × (test key ≡ true) × P (key, x)
    by_case rest true passes is = (e.0, passes, subst (λ (v : X). P (e.0, v)) (same_Some e.1 x is) all.0)
    by_case rest false passes is = rest is

all_more : {E : Type 0} (P Q : E → Type 0) → ((e : E) → P e → Q e) → (es : List E) → AllByRecursion P es → AllByRecursion Q es
all_more P Q more [] all = tt
all_more P Q more (e ∷ es) all = (more e all.0, all_more P Q more es all.1)

-- the verdict that a cache answers is no older than what was told, and was found
answered_by : (key : CacheKey) (cache : Cache) (verdict : Verdict) → answer_in key cache ≡ Some verdict
    → (lookup (same_asked key) cache.entries ≡ Some verdict) × (nat_le cache.told verdict.commit ≡ true)
answered_by key cache verdict is = by_case (lookup (same_asked key) cache.entries) is where
  by_case : (found : Option Verdict) → if_not_older cache.told found ≡ Some verdict
      → (found ≡ Some verdict) × (nat_le cache.told verdict.commit ≡ true)
  by_case None is = absurd (none-some verdict is)
  by_case (Some own) is =
      let both = cond_some (nat_le cache.told own.commit) own verdict is in
      (ap (λ (v : Verdict). Some v) both.1, ap (λ (v : Verdict). nat_le cache.told v.commit) (sym both.1) ∙ both.0)

-- ---- clients

-- the client of this number, once it is this one
put_here : (client : ℕ) (changed : Client) (slots : List Slot) → client_in client (put_client client changed slots) ≡ changed
put_here client changed slots =
    client-put client client changed slots
    ∙ ap (λ b. cond b changed (client_in client slots)) (eq-eqb client client refl)

stands_put : (cache : Cache) (client : ℕ) (changed : Client) (slots : List Slot) → CacheStands cache changed
    → CacheStands cache (client_in client (put_client client changed slots))
stands_put cache client changed slots stands = subst (CacheStands cache) (sym (put_here client changed slots)) stands

-- ---- a hit

texts_turned : (one other : List ℕ) → same_text one other ≡ true → same_text other one ≡ true
texts_turned one other same = ≡-same_text other one (sym (same_text-≡ one other same))

turned : (question other : Question) → same_key_question question other ≡ true → same_question other question ≡ true
turned question other same =
    let both = and_parts (same_text question.client other.client)
    (same_text question.user other.user && same_text question.privilege other.privilege) same in
    let rest = and_parts (same_text question.user other.user) (same_text question.privilege other.privilege) both.1 in
    and_from (same_text other.client question.client)
    (same_text other.user question.user && same_text other.privilege question.privilege)
    (texts_turned question.client other.client both.0)
    (and_from (same_text other.user question.user) (same_text other.privilege question.privilege)
    (texts_turned question.user other.user rest.0) (texts_turned question.privilege other.privilege rest.1))

-- the same question, as the world compares them
asked_same : (key other : CacheKey) (question : Question) → same_asked key other ≡ true → question ≡ key.question
    → same_question other.question question ≡ true
asked_same key other question same is =
    let both = and_parts (same_text key.session other.session) (same_key_question key.question other.question) same in
    subst (λ (q : Question). same_question other.question q ≡ true) (sym is) (turned key.question other.question both.1)

module _ (world : World) (client ask link : ℕ) (found : Link) (key : CacheKey)
    (asking : IsAsking world client ask key.question link found) where
  pub hits : (cache : Cache) (verdict : Verdict) → CacheStands cache (client_of world client) → found.up ≡ true
      → answer_in key cache ≡ Some verdict
      → (entry : ℕ) × Happens (Hit client entry) world (λ next.
      (next ≡ given client ask found.run (Judged verdict) world) × CacheStands (used key cache) (client_of next client))
  hits cache verdict stands up answers =
      let found_so = answered_by key cache verdict answers in
      let entry = looked_up (IsReceived (client_of world client).log) (same_asked key) cache.entries verdict stands.received found_so.0 in
      let known : Known = record { question = entry.0.question; verdict = verdict } in
      let place = entry.2.0 in
      let next = given client ask found.run (Judged verdict) world in
      let recent = ap (λ (told : ℕ). nat_le told verdict.commit) stands.told ∙ found_so.1 in
      let changed : Client = record (client_of world client) { asking = None } in (
        place,
        record {
          next = next;
          enabled = some_enabled (client_of world client).asking ask _ next asking.asking
              (some_enabled (slice_get world.asks ask) asking.asked _ next asking.asks
              (some_enabled (client_of world client).link link _ next asking.holds
              (some_enabled (slice_get world.links link) found _ next asking.there
              (some_enabled (slice_get (client_of world client).log place) known _ next entry.2.1
              (when_enabled _ next
              (and_from found.up (same_question known.question asking.asked.question && nat_le (client_of world client).told verdict.commit) up
              (and_from (same_question known.question asking.asked.question) (nat_le (client_of world client).told verdict.commit)
              (asked_same key entry.0 asking.asked.question entry.1 asking.same) recent)))))));
          behind = (
            refl,
            stands_put (used key cache) client changed world.clients
                (record {
                  told = stands.told;
                  received = all_promoted (IsReceived (client_of world client).log) (same_asked key) cache.entries stands.received;
                }),
          );
        },
      )

  -- ---- a reply

  pub receives : (old new : Cache) (result : Result Checked ClientRefusal) (transit : Transit) → CacheStands old (client_of world client)
      → found.reply ≡ Some transit → transit.ask ≡ ask → Says transit.reply result → KeepsBehind key result old new
      → Happens (Deliver client) world (λ next. CacheStands new (client_of next client))
  receives old new result transit stands sent mine says keeps =
      let next = delivered client ask asking.asked.question link found transit.reply world in
      let log = (client_of world client).log in
      let changed : Client = record (client_of world client) {
        asking = None;
        log = kept asking.asked.question transit.reply log;
      } in
      record {
        next = next;
        enabled = some_enabled (client_of world client).asking ask _ next asking.asking
            (some_enabled (slice_get world.asks ask) asking.asked _ next asking.asks
            (some_enabled (client_of world client).link link _ next asking.holds
            (some_enabled (slice_get world.links link) found _ next asking.there
            (some_enabled found.reply transit _ next sent
            (when_enabled (transit.ask == ask) next (eq-eqb transit.ask ask mine))))));
        behind = stands_put new client changed world.clients (keeps_so result says keeps);
      } where
        longer : (reply : Reply) (entry : CacheKey × Verdict) → IsReceived (client_of world client).log entry
            → IsReceived (kept asking.asked.question reply (client_of world client).log) entry
        longer (Judged verdict) entry is = (
          is.0,
          get-append (client_of world client).log (record { question = asking.asked.question; verdict = verdict } ∷ []) is.0
              (record { question = entry.0.question; verdict = entry.1 }) is.1,
        )
        longer other entry is = is

        all_longer : (reply : Reply) → AllByRecursion (IsReceived (kept asking.asked.question reply (client_of world client).log)) old.entries
        all_longer reply =
            all_more (IsReceived (client_of world client).log) (IsReceived (kept asking.asked.question reply (client_of world client).log))
            (longer reply) old.entries stands.received

        same_entries : (cache : Cache) → cache ≡ old
            → CacheStands cache (record (client_of world client) {
              asking = None;
              log = kept asking.asked.question transit.reply (client_of world client).log;
            })
        same_entries cache is =
            subst (λ (cache : Cache). CacheStands cache (record (client_of world client) {
              asking = None;
              log = kept asking.asked.question transit.reply (client_of world client).log;
            })) (sym is) (record { told = stands.told; received = all_longer transit.reply })

        new_entry : (verdict : Verdict) → transit.reply ≡ Judged verdict
            → IsReceived (kept asking.asked.question transit.reply (client_of world client).log) (key, verdict)
        new_entry verdict is = (
          length (client_of world client).log,
          ap (λ (reply : Reply). slice_get (kept asking.asked.question reply (client_of world client).log) (length (client_of world client).log)) is
              ∙ (get-end (client_of world client).log (record { question = asking.asked.question; verdict = verdict })
              ∙ ap (λ (q : Question). Some (record { question = q; verdict = verdict })) asking.same),
        )

        judged : (verdict : Verdict) → transit.reply ≡ Judged verdict → (new ≡ kept_in key verdict old) ⊎ (new ≡ without key old)
            → CacheStands new (record (client_of world client) {
              asking = None;
              log = kept asking.asked.question transit.reply (client_of world client).log;
            })
        judged verdict is (inl put) =
            subst (λ (cache : Cache). CacheStands cache (record (client_of world client) {
              asking = None;
              log = kept asking.asked.question transit.reply (client_of world client).log;
            })) (sym put)
            (record {
              told = stands.told;
              received = (
                new_entry verdict is,
                all_taken (IsReceived (kept asking.asked.question transit.reply (client_of world client).log)) (same_asked key) (old.most - 1)
                    (remove_entry (same_asked key) old.entries)
                    (all_removed (IsReceived (kept asking.asked.question transit.reply (client_of world client).log)) (same_asked key) old.entries
                    (all_longer transit.reply)),
              );
            })
        judged verdict is (inr gone) =
            subst (λ (cache : Cache). CacheStands cache (record (client_of world client) {
              asking = None;
              log = kept asking.asked.question transit.reply (client_of world client).log;
            })) (sym gone)
            (record {
              told = stands.told;
              received = all_removed (IsReceived (kept asking.asked.question transit.reply (client_of world client).log)) (same_asked key) old.entries
                  (all_longer transit.reply);
            })

        by_kind : (verdict : Verdict) → transit.reply ≡ Judged verdict → (b : Bool)
            → MatchBool b (new ≡ old) ((new ≡ kept_in key verdict old) ⊎ (new ≡ without key old))
            → CacheStands new (record (client_of world client) {
              asking = None;
              log = kept asking.asked.question transit.reply (client_of world client).log;
            })
        by_kind verdict is true same = same_entries new same
        by_kind verdict is false put = judged verdict is put

        keeps_so : (result : Result Checked ClientRefusal) → Says transit.reply result → KeepsBehind key result old new
            → CacheStands new (record (client_of world client) {
              asking = None;
              log = kept asking.asked.question transit.reply (client_of world client).log;
            })
        keeps_so (Ok (ByPolicies verdict)) says keeps = by_kind verdict says (is_agent verdict.answer.kind.0) keeps
        keeps_so (Ok (ByAgent commit kind number allowed)) says keeps = same_entries new keeps
        keeps_so (Err refused) says keeps = same_entries new keeps

-- ---- a new client, a closed connection, and a told commit

pub stands_new : (world : World) (client most : ℕ) → client_of world client ≡ unnamed
    → CacheStands (empty_cache most) (client_of world client)
stands_new world client most is = subst (CacheStands (empty_cache most)) (sym is) (record { told = refl; received = tt })

pub notices : (old new : Cache) (world : World) (client link : ℕ) (found : Link) → CacheStands old (client_of world client)
    → (client_of world client).link ≡ Some link → slice_get world.links link ≡ Some found → found.up ≡ false → new ≡ emptied old
    → Happens (Notice client) world (λ next. CacheStands new (client_of next client))
notices old new world client link found stands holds there down bare =
    let changed : Client = record (client_of world client) { link = None; log = [] } in
    let next = with_client client changed world in
    record {
      next = next;
      enabled = some_enabled (client_of world client).link link _ next holds
          (some_enabled (slice_get world.links link) found _ next there
          (when_enabled (not found.up) next (ap not down)));
      behind = subst (λ (cache : Cache). CacheStands cache (client_of next client)) (sym bare)
          (stands_put (emptied old) client changed world.clients (record { told = stands.told; received = tt }));
    }

pub tells : (cache : Cache) (world : World) (client commit : ℕ) → CacheStands cache (client_of world client) → commit ≤ world.acknowledged
    → Happens (Tell client commit) world (λ next. CacheStands (record cache { told = max cache.told commit }) (client_of next client))
tells cache world client commit stands low =
    let changed : Client = record (client_of world client) { told = max (client_of world client).told commit } in
    let next = with_client client changed world in
    record {
      next = next;
      enabled = when_enabled (nat_le commit world.acknowledged) next (le-leb commit world.acknowledged low);
      behind = stands_put (record cache { told = max cache.told commit }) client changed world.clients
          (record { told = ap (λ (told : ℕ). max told commit) stands.told; received = stands.received });
    }
