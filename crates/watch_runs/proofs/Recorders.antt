-- The recorders of a run, from its start to its end.
use Rattle.std.proofs.Common.{◌≡◌, ◌∙◌, ℕ, zero, suc, Option, Some, None, OnSome, List, [], ◌∷◌, ◌++◌, length, refl, sym, ap, subst}
use Rattle.std.proofs.Common.{append_assoc, arith}
use Rattle.std.specs.List.{AllZip}
use Rattle.std.proofs.lemmas.List.{length-append}
use Rattle.atomic_table.specs.Seated.{TableId}
use Rattle.link_ports.specs.Traffic.{Traffic}
use Rattle.link_ports.specs.LinkMarks.{LinkMarks}
use Rattle.link_ports.specs.declared.door_kinds.DoorKind.{DoorKind}
use Rattle.live_desk.specs.Seat.{SeatState, new_seat, new_seats}
use Rattle.run_endings.specs.Outside.{SinkSeen, DiskSeen}
use Rattle.run_endings.specs.declared.endings.Ending.{Ending}
use Rattle.run_endings.specs.declared.endings.Ending.TheVariants as ending
use Rattle.monitor_rule.specs.declared.entries.Entry.{Entry}
use Rattle.monitor_rule.specs.Steps.{AreKnown}
use Rattle.check_monitor.specs.Monitor.{RecorderState, ReaderState, AreAll, AreWhole, IsSame, new_recorder_of, new_recorders, new_reader_of}
use Rattle.check_monitor.proofs.All.{all_new, all_same}
use Rattle.desk_server.proofs.Recordings.{stays_same}
use Rattle.monitor_journal.specs.Journal.{entries_text, missed_lines, Writes, Journals, EndsJournal}
use Rattle.monitor_journal.specs.declared.writing.Writing.{Writing}
use Rattle.monitor_journal.specs.declared.writing.Writing.TheVariants.{GoesOn}
use Rattle.std.proofs.lemmas.Grind.{flat_map-append}
use Rattle.monitor_journal.specs.Lines.{entry_text}
use Rattle.monitor_journal.proofs.Lines.{known-more}
use Rattle.monitor_journal.proofs.Writes.{writes_then}
use Rattle.desk_server.specs.Monitored.{Post, post_of, VisitsWatched}
use Rattle.desk_server.proofs.Watched.{visits_record}
use Rattle.serve_runs.specs.Handlers.{states_of, AreLeftOf}
use Rattle.serve_runs.specs.Run.{RunsServe}
use Rattle.serve_runs.proofs.Pooling.{seats_are}
use Rattle.serve_runs.proofs.Left.{CameTo, all_left}
use Rattle.watch_runs.specs.Watching.{new_posts, recorders_of, Journaled, ending_with}

-- ---- posts

count_is : (queue : TableId) (room count : ℕ) → length (new_recorders queue room count) ≡ count
count_is queue room zero = refl
count_is queue room (suc count) =
    length-append (new_recorders queue room count) (new_recorder_of queue room count ∷ [])
    ∙ (let is = count_is queue room count in omega (arith, is))

-- as many recorders as workers
pub as_many : (queue : TableId) (workers : ℕ) (recorders : List RecorderState) → recorders ≡ new_recorders queue 4096 workers
    → length recorders ≡ workers
as_many queue workers recorders is = ap (λ (list : List RecorderState). length list) is ∙ count_is queue 4096 workers

-- a seat and a recorder behind as many
posts_more : (seats : List SeatState) (recorders : List RecorderState) (seat : SeatState) (recorder : RecorderState)
    → length seats ≡ length recorders
    → states_of post_of (seats ++ seat ∷ []) (recorders ++ recorder ∷ []) ≡ states_of post_of seats recorders ++ post_of seat recorder ∷ []
posts_more [] [] seat recorder long = refl
posts_more [] (r ∷ recorders) seat recorder long = absurd (omega (arith, long))
posts_more (s ∷ seats) [] seat recorder long = absurd (omega (arith, long))
posts_more (s ∷ seats) (r ∷ recorders) seat recorder long =
    ap (λ (posts : List Post). post_of s r ∷ posts) (posts_more seats recorders seat recorder (omega (arith, long)))

-- each seat with the recorder of its number
posts_are : (queue : TableId) (workers : ℕ) → states_of post_of (new_seats workers) (new_recorders queue 4096 workers) ≡ new_posts queue workers
posts_are queue zero = refl
posts_are queue (suc count) =
    posts_more (new_seats count) (new_recorders queue 4096 count) (new_seat count) (new_recorder_of queue 4096 count)
    (seats_are count ∙ sym (count_is queue 4096 count))
    ∙ ap (λ (posts : List Post). posts ++ post_of (new_seat count) (new_recorder_of queue 4096 count) ∷ []) (posts_are queue count)

pub posts_begun : (queue : TableId) (workers : ℕ) (recorders : List RecorderState) → recorders ≡ new_recorders queue 4096 workers
    → states_of post_of (new_seats workers) recorders ≡ new_posts queue workers
posts_begun queue workers recorders are =
    ap (λ (list : List RecorderState). states_of post_of (new_seats workers) list) are ∙ posts_are queue workers

recorders_given : (seats : List SeatState) (recorders : List RecorderState) → length seats ≡ length recorders
    → recorders_of (states_of post_of seats recorders) ≡ recorders
recorders_given [] [] long = refl
recorders_given [] (r ∷ recorders) long = absurd (omega (arith, long))
recorders_given (s ∷ seats) [] long = absurd (omega (arith, long))
recorders_given (s ∷ seats) (r ∷ recorders) long =
    ap (λ (list : List RecorderState). r ∷ list) (recorders_given seats recorders (omega (arith, long)))

-- what has become of the posts, where there was a service
pub left_some : {V : Type 0} (P : Option (List Post) → Type 0) (items : V → List RecorderState) (handlers : Option V) (found : V)
    (left : Option (List Post)) → handlers ≡ Some found → AreLeftOf post_of items handlers left → P left
    → (posts : List Post) × P (Some posts) × (recorders_of posts ≡ items found)
left_some P items (Some other) found (Some posts) is (seats, long, are) holds =
    let same : other ≡ found = cc in (
      posts,
      holds,
      ap (λ (list : List Post). recorders_of list) are ∙ (recorders_given seats (items other) long ∙ ap items same),
    )
left_some P items (Some other) found None is are holds = absurd are
left_some P items None found left is are holds = let wrong : ⊥ = cc in absurd wrong

pub left_none : {V : Type 0} (P : Option (List Post) → Type 0) (items : V → List RecorderState) (handlers : Option V)
    (left : Option (List Post)) → handlers ≡ None → AreLeftOf post_of items handlers left → P left → P None
left_none P items None None is are holds = holds
left_none P items None (Some posts) is are holds = absurd are
left_none P items (Some other) left is are holds = let wrong : ⊥ = cc in absurd wrong

-- ---- recorders

module _ {L E : Type 0} (traffic : L → Option Traffic) (marks : L → LinkMarks) (faults : L → ℕ)
    (given_back : E → Option (List L)) (door_faults : E → ℕ) (kind : E → Option DoorKind) where
  abbrev Made : Post → Post → Type 0
  Made = CameTo (λ (post : Post). post.seat) (VisitsWatched traffic marks faults) traffic marks faults given_back door_faults kind

  same_each : (starts posts : List Post) → AllZip Made starts posts → AllZip IsSame (recorders_of starts) (recorders_of posts)
  same_each [] [] all = tt
  same_each [] (y ∷ posts) all = absurd all
  same_each (x ∷ starts) [] all = absurd all
  same_each (x ∷ starts) (y ∷ posts) ((connections, in_turn), all) =
      let (judged, records) = visits_record traffic marks faults connections x y in_turn in
      (stays_same judged x.recorder y.recorder records, same_each starts posts all)

  -- each recorder is still that of its worker
  pub same_recorders : (workers : ℕ) (recorders back : List RecorderState) (posts : List Post) (ending : Ending) (before after : DiskSeen)
      (net net_now : ℕ) (closed closed_now : Option (List E)) → length recorders ≡ workers
      → RunsServe (λ (post : Post). post.seat) (VisitsWatched traffic marks faults) traffic marks faults given_back door_faults kind
      (states_of post_of (new_seats workers) recorders) (Some posts) ending before after net net_now closed closed_now
      → recorders_of posts ≡ back → AllZip IsSame recorders back
  same_recorders workers recorders back posts ending before after net net_now closed closed_now long runs are =
      let given = recorders_given (new_seats workers) recorders (seats_are workers ∙ sym long) in
      let made = all_left (λ (post : Post). post.seat) (VisitsWatched traffic marks faults) traffic marks faults given_back door_faults kind
      (states_of post_of (new_seats workers) recorders) (Some posts) posts ending before after net net_now closed closed_now refl runs in
      subst (λ (list : List RecorderState). AllZip IsSame list back) given
      (subst (λ (list : List RecorderState). AllZip IsSame (recorders_of (states_of post_of (new_seats workers) recorders)) list) are
      (same_each (states_of post_of (new_seats workers) recorders) posts made))

-- they are still all those of the reader
pub all_still : (reader now : ReaderState) (workers : ℕ) (recorders back : List RecorderState) (list : List Entry)
    → reader ≡ new_reader_of reader.queue 4096 workers → recorders ≡ new_recorders reader.queue 4096 workers
    → AllZip IsSame recorders back → now ≡ record reader { handed = list } → AreAll now.queue now.made back
all_still reader now workers recorders back list is are all handed =
    let queue : now.queue ≡ reader.queue = ap (λ (r : ReaderState). r.queue) handed in
    let made : now.made ≡ workers = ap (λ (r : ReaderState). r.made) handed ∙ ap (λ (r : ReaderState). r.made) is in
    subst (λ (q : TableId). AreAll q now.made back) (sym queue)
    (subst (λ (n : ℕ). AreAll reader.queue n back) (sym made)
    (all_same reader.queue workers recorders back all (all_new reader.queue 4096 workers recorders are)))

-- what was written meanwhile, and then at the end
pub journaled_all : (workers turns : ℕ) (reader now : ReaderState) (posts : List Post) (back : List RecorderState) (writing next : Writing)
    (before between after : SinkSeen)
    → reader ≡ new_reader_of reader.queue 4096 workers → recorders_of posts ≡ back → Journals turns reader now GoesOn writing before between
    → EndsJournal now back writing next between after → Journaled workers (Some posts) next before after
journaled_all workers turns reader now posts back writing next before between after is same journals ended =
    let recorders = recorders_of posts in
    let ends = subst (λ (list : List RecorderState). EndsJournal now list writing next between after) (sym same) ended in
    let handed : now.handed ≡ journals.entries =
    ap (λ (r : ReaderState). r.handed) journals.handed ∙ ap (λ (r : ReaderState). r.handed ++ journals.entries) is in
    let count : reader.made ≡ workers = ap (λ (r : ReaderState). r.made) is in
    let still : now.made ≡ workers = ap (λ (r : ReaderState). r.made) journals.handed ∙ count in
    let text : entries_text (journals.entries ++ ends.left) ++ missed_lines recorders
    ≡ entries_text journals.entries ++ (entries_text ends.left ++ missed_lines recorders) =
    ap (λ (list : List ℕ). list ++ missed_lines recorders) (flat_map-append entry_text journals.entries ends.left)
    ∙ append_assoc (entries_text journals.entries) (entries_text ends.left) (missed_lines recorders) in
    Journaled.journaled (journals.entries ++ ends.left) posts refl
    (subst (λ (list : List Entry). AreWhole (list ++ ends.left) recorders) handed ends.whole)
    (known-more workers journals.entries ends.left (subst (λ (n : ℕ). AreKnown n journals.entries) count journals.known)
    (subst (λ (n : ℕ). AreKnown n ends.left) still ends.known))
    (subst (λ (list : List ℕ). Writes GoesOn list before next after) (sym text)
    (writes_then GoesOn writing next (entries_text journals.entries) (entries_text ends.left ++ missed_lines recorders) before between after
    journals.written ends.written))

-- ---- nobody was served

-- any queue will do
pub no_queue : TableId
no_queue = record { words = 0; slots = 0; views_name = 0; atom = 0; block = 0; offset = 0; slot_names = [] }

-- where nothing was to be written, the writing changes nothing of it
pub stays_so : (met : Ending) → met ≡ ending_with met GoesOn
stays_so ending.Done = refl
stays_so met = refl

-- ---- what the journal did that the service was given

pub on_some : {A P : Type 0} (found : Option A) (value : A) → found ≡ Some value → OnSome found P → P
on_some (Some other) value is holds = holds
on_some None value is holds = cc

pub journals_given : (turns : ℕ) (reader given now back : ReaderState) (start writing kept : Writing) (before first last after : SinkSeen)
    → given ≡ reader → start ≡ GoesOn → first ≡ before → back ≡ now → kept ≡ writing → last ≡ after
    → Journals turns given now start writing first last → Journals turns reader back GoesOn kept before after
journals_given turns reader given now back start writing kept before first last after same begins is gives stays ends journals =
    subst (λ (one : ReaderState). Journals turns reader one GoesOn kept before after) (sym gives)
    (subst (λ (way : Writing). Journals turns reader now GoesOn way before after) (sym stays)
    (subst (λ (sink : SinkSeen). Journals turns reader now GoesOn writing before sink) ends
    (subst (λ (sink : SinkSeen). Journals turns reader now GoesOn writing sink last) is
    (subst (λ (way : Writing). Journals turns reader now way writing first last) begins
    (subst (λ (one : ReaderState). Journals turns one now start writing first last) same journals)))))
