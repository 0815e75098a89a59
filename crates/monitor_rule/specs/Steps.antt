-- The kinds of step, and what each tells. The passes are made: the reader's, and a recorder's at a time. A push changes
-- the recorder's view, a push that is refused changes none. A take changes the reader's view, one that finds nothing
-- changes none. A recorder that has ended is joined to the reader: their two views change. Once all were joined, a take
-- also tells what is left.
use Rattle.std.specs.Prelude.{◌≡◌, ◌<◌, ℕ, suc, true, false, List, [], ◌∷◌, ◌++◌, length}
use Rattle.std.specs.List.{AllByRecursion}
use mathlib.Core.Option.{some}
use lib.ListN.{get_elem?}
use Rattle.monitor_rule.specs.declared.entries.Entry.{Entry}
use Rattle.monitor_rule.specs.declared.knowing.Account.{Account}
use Rattle.monitor_rule.specs.declared.knowing.View.{View}
use Rattle.monitor_rule.specs.Entries.{of_worker}

-- a reader that handed out nothing, and made no recorder
abbrev pub new_reader : View
new_reader = record {
  records = false;
  worker = 0;
  put = [];
  reads = true;
  handed = [];
  made = 0;
  joined = [];
  ends = false;
  left = [];
}

-- a recorder of this worker that put nothing
abbrev pub new_recorder : ℕ → View
new_recorder worker = record {
  records = true;
  worker = worker;
  put = [];
  reads = false;
  handed = [];
  made = 0;
  joined = [];
  ends = false;
  left = [];
}

-- a pass that neither records nor reads any more
abbrev pub ended : View
ended = record {
  records = false;
  worker = 0;
  put = [];
  reads = false;
  handed = [];
  made = 0;
  joined = [];
  ends = false;
  left = [];
}

-- a recorder was made
abbrev pub with_one_made : View → View
with_one_made v = record v { made = suc v.made }

-- an entry was put
abbrev pub with_put : Entry → View → View
with_put entry v = record v { put = v.put ++ entry ∷ [] }

-- an entry was handed out
abbrev pub with_handed : Entry → View → View
with_handed entry v = record v { handed = v.handed ++ entry ∷ [] }

-- what the recorder put in all
abbrev pub account_of : View → Account
account_of recorder = record { worker = recorder.worker; put = recorder.put }

-- a recorder was taken in
abbrev pub with_joined : View → View → View
with_joined recorder v = record v { joined = v.joined ++ account_of recorder ∷ [] }

-- the entry is of the recorder's worker, and its number is the count of what the recorder put
abbrev pub IsNext : View → Entry → Type 0
IsNext v entry = (entry.worker ≡ v.worker) × (entry.number ≡ length v.put)

-- the entry's number is the count of its worker's entries that were handed out
abbrev pub IsNumberedNext : View → Entry → Type 0
IsNumberedNext v entry = entry.number ≡ length (of_worker entry.worker v.handed)

-- the entry is of a worker for which the reader made a recorder
abbrev pub IsKnown : View → Entry → Type 0
IsKnown v entry = entry.worker < v.made

-- each of these is of a worker below this number
abbrev pub AreKnown : ℕ → List Entry → Type 0
AreKnown made entries = AllByRecursion (λ entry. entry.worker < made) entries

-- what the recorder put are its worker's entries that were handed out and those in the queue
abbrev pub StandsIn : View → List Entry → Type 0
StandsIn v items = (handed : List Entry) × (v.put ≡ of_worker v.worker (handed ++ items))

-- what each worker of a recorder that was taken in put are its entries that were handed out and those in the queue
abbrev pub AreSettled : View → List Entry → Type 0
AreSettled v items = (place : ℕ) (account : Account) → get_elem? v.joined place ≡ some account
    → account.put ≡ of_worker account.worker (v.handed ++ items)

-- what is left is known
abbrev pub with_left : List Entry → View → View
with_left left v = record v { ends = true; left = left }

-- each recorder that was made has been taken in
abbrev pub AreAllJoined : View → Type 0
AreAllJoined v = (worker : ℕ) → worker < v.made → (place : ℕ) × (account : Account)
    × (get_elem? v.joined place ≡ some account) × (account.worker ≡ worker)

-- An entry was handed out, and what is left is known from then on: what each worker put are its entries that were
-- handed out before, and those of this entry and of what is left; and nothing of another worker is left.
abbrev pub TellsLeft : View → Entry → View → Type 0
TellsLeft v entry w = (left : List Entry)
    × (w ≡ with_left left (with_handed entry v)) × IsNumberedNext v entry × AreSettled v (entry ∷ left)
    × AreKnown v.made (entry ∷ left)

-- the first of what is left was handed out
abbrev pub TakesLeft : View → Entry → View → Type 0
TakesLeft v entry w = (left : List Entry)
    × (v.left ≡ entry ∷ left) × (w ≡ with_left left (with_handed entry v)) × IsNumberedNext v entry
