-- A seat and a publisher may go to another thread. A `search` that goes down through all that they are made of runs out of
-- steps, so each part has a lemma of its own. Who hands a seat to a thread lists `seat_send` at the call.
use denote.RattleType.{RattleType}
use denote.Builtin.{u64}
use mir.Syntax.{Dict}
use denote.Param.Send.{IsSend, IsSync, sendable}
use denote.Param.SendFields.{as_row_sync}
use Rattle.std.proofs.Crossing.{crosses}
use Rattle.std.proofs.MapsCrossing as maps
use Rattle.std.specs.contracts.alloc.Global as Global
use Rattle.std.specs.contracts.impls.GlobalAllocator.TheImpl as heap
use Rattle.cynara_keys.specs.contracts.shared.Shared as Shared
use Rattle.cynara_keys.specs.contracts.keys.Key as Key
use Rattle.cynara_keys.specs.contracts.keys.Policy as Policy
use Rattle.cynara_keys.specs.contracts.results.PolicyResult as PolicyResult
use Rattle.cynara_keys.specs.contracts.bucket_names.BucketName as BucketName
use Rattle.bucket_store.specs.contracts.buckets.Body as Body
use Rattle.bucket_store.specs.contracts.buckets.Bucket as Bucket
use Rattle.bucket_store.specs.contracts.databases.Database as Database
use Rattle.bucket_eval.specs.contracts.indexes.Index as Index
use Rattle.bucket_eval.specs.contracts.names.Names as Names
use Rattle.bucket_eval.specs.contracts.shared_sheets.SharedSheet as SharedSheet
use Rattle.bucket_eval.specs.contracts.sheets.Filed as Filed
use Rattle.bucket_eval.specs.contracts.sheets.Sheet as Sheet
use Rattle.atomic_table.proofs.shared.Seat.TheSendSync as place
use Rattle.atomic_table.proofs.shared.Shared.TheSendSync as board
use Rattle.atomic_table.proofs.send_lease.SendLease.TheSendSync as lease
use Rattle.state_list.specs.declared.rules.Naming.{Ghosts}
use Rattle.state_list.specs.contracts.rules.Events as Events
use Rattle.state_list.proofs.Sent.{front_send, front_sync}
use Rattle.live_roll.proofs.Sent.{log_send}
use Rattle.left_right.specs.contracts.part.Part as Part
use Rattle.left_right.proofs.part.Part.TheSendSync as part
use Rattle.left_right.specs.contracts.reader.Factory as Factory
use Rattle.left_right.specs.contracts.reader.Reader as Reader
use Rattle.live_desk.specs.contracts.copies.DeskCopy as DeskCopy
use Rattle.live_desk.specs.contracts.copies.Published as Published
use Rattle.live_desk.specs.contracts.copies.Shown as Shown
use Rattle.live_desk.specs.contracts.running.Running as Running
use Rattle.live_desk.specs.contracts.running.RunningProtocolPublishedU64.TheImpl as rule
use Rattle.live_desk.specs.contracts.seats.Seat as Seat

-- what an index is made of
shared_send : IsSend (Shared.the_field).row
shared_send = search (sendable, crosses) depth 40

shared_sync : IsSync (Shared.the_field).row
shared_sync = search (sendable, crosses) depth 40

key_send : IsSend (Key.the_field).row
key_send = search (sendable, crosses) depth 40

key_sync : IsSync (Key.the_field).row
key_sync = search (sendable, crosses) depth 40

result_send : IsSend (PolicyResult.the_field).row
result_send = search (sendable, crosses, shared_send) depth 40

result_sync : IsSync (PolicyResult.the_field).row
result_sync = search (sendable, crosses, shared_sync) depth 40

bucket_name_send : IsSend (BucketName.the_field).row
bucket_name_send = search (sendable, crosses, shared_send) depth 40

bucket_name_sync : IsSync (BucketName.the_field).row
bucket_name_sync = search (sendable, crosses, shared_sync) depth 40

policy_send : IsSend (Policy.the_field).row
policy_send = search (sendable, crosses, key_send, result_send) depth 40

policy_sync : IsSync (Policy.the_field).row
policy_sync = search (sendable, crosses, key_sync, result_sync) depth 40

body_send : IsSend (Body.the_field).row
body_send = search (sendable, crosses, bucket_name_send, result_send, policy_send) depth 40

body_sync : IsSync (Body.the_field).row
body_sync = search (sendable, crosses, bucket_name_sync, result_sync, policy_sync) depth 40

bucket_send : IsSend (Bucket.the_field).row
bucket_send = search (sendable, crosses, body_send, body_sync) depth 40

bucket_sync : IsSync (Bucket.the_field).row
bucket_sync = search (sendable, crosses, body_send, body_sync) depth 40

database_send : IsSend (Database.the_field).row
database_send = search (sendable, crosses, bucket_send) depth 40

database_sync : IsSync (Database.the_field).row
database_sync = search (sendable, crosses, bucket_sync) depth 40

names_send : IsSend (Names.the_field).row
names_send = search (sendable, crosses, maps.crosses) depth 40

names_sync : IsSync (Names.the_field).row
names_sync = search (sendable, crosses, maps.crosses) depth 40

filed_send : IsSend (Filed.the_field).row
filed_send = search (sendable, crosses) depth 40

filed_sync : IsSync (Filed.the_field).row
filed_sync = search (sendable, crosses) depth 40

sheet_send : IsSend (Sheet.the_field).row
sheet_send = search (sendable, crosses, maps.crosses, filed_send) depth 40

sheet_sync : IsSync (Sheet.the_field).row
sheet_sync = search (sendable, crosses, maps.crosses, filed_sync) depth 40

shared_sheet_send : IsSend (SharedSheet.the_field).row
shared_sheet_send = search (sendable, crosses, sheet_send, sheet_sync) depth 40

shared_sheet_sync : IsSync (SharedSheet.the_field).row
shared_sheet_sync = search (sendable, crosses, sheet_send, sheet_sync) depth 40

index_send : IsSend (Index.the_field).row
index_send = search (sendable, crosses, database_send, names_send, shared_sheet_send) depth 40

index_sync : IsSync (Index.the_field).row
index_sync = search (sendable, crosses, database_sync, names_sync, shared_sheet_sync) depth 40

-- the copies
copy_send : IsSend (DeskCopy.the_field).row
copy_send = search (sendable, crosses, index_send) depth 40

copy_sync : IsSync (DeskCopy.the_field).row
copy_sync = search (sendable, crosses, index_sync) depth 40

-- Those of a list go where its name may.
module _ (J : RattleType) (naming : Ghosts J.Denot) (dict : Dict) where
  shown_sync : IsSync J → IsSync (Shown.the_field J naming).row
  shown_sync sync = search (sendable, crosses, copy_send, copy_sync, front_sync) depth 40

  published_sync : IsSync J → IsSync (Published.the_field J naming).row
  published_sync sync = search (sendable, crosses, shown_sync) depth 40

  published_row_sync : IsSync J → IsSync (Published.the_row J naming)
  published_row_sync sync = as_row_sync (Published.the_field J naming) (published_sync sync)

  -- what readers and the writer have of them
  part_send : IsSync J → IsSend (Part.the_row (Published.the_row J naming))
  part_send sync = part.the_send (Published.the_row J naming) (published_row_sync sync)

  factory_send : IsSync J
      → IsSend (Factory.the_field (Published.the_row J naming) u64 Running.the_row Global.the_row (rule.ghosts J naming dict) heap.ghosts).row
  factory_send sync = search (sendable, crosses, part_send, board.the_send, board.the_sync, lease.the_send, lease.the_sync) depth 40

  reader_send : IsSync J
      → IsSend (Reader.the_field (Published.the_row J naming) u64 Running.the_row Global.the_row (rule.ghosts J naming dict) heap.ghosts).row
  reader_send sync = search (sendable, crosses, factory_send, part_send, place.the_send) depth 40

  -- a seat has a front of the roll's log too
  pub seat_send : (events : Ghosts (Events.the_row J).Denot) → IsSend J → IsSync J → IsSend (Seat.the_field J naming events).row
  seat_send events send sync = search (sendable, crosses, reader_send, front_send, log_send) depth 40
