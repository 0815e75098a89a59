use Rattle.std.proofs.Common.{◌≡◌, ℕ, List, [], ◌∷◌, Err, codes}
use Rattle.std.proofs.lemmas.Result.{err_from_is_err_and}
use Rattle.sample_runs.specs.Sample.{follow_line}
use Rattle.sample_runs.specs.parts.Following.{stand_of}
use Rattle.sample_runs.proofs.Going.{goes-on, stops-on}
use Rattle.sample_runs.proofs.samples.Sample.open.Goals as goal

-- each line, and the lines from it on
abbrev layout : List (List ℕ)
layout = codes "layout" ∷ []

abbrev system : List (List ℕ)
system = codes "user 5001 system" ∷ []

abbrev admin : List (List ℕ)
admin = codes "user 5002 admin" ∷ []

abbrev normal : List (List ℕ)
normal = codes "user 5003 normal" ∷ []

abbrev guest : List (List ℕ)
guest = codes "user 5004 guest" ∷ []

abbrev from_normal : List (List ℕ)
from_normal = codes "user 5003 normal" ∷ guest

abbrev from_admin : List (List ℕ)
from_admin = codes "user 5002 admin" ∷ from_normal

abbrev from_system : List (List ℕ)
from_system = codes "user 5001 system" ∷ from_admin

pub returns-in_err-follow_text : goal.returns-in_err-follow_text
returns-in_err-follow_text c =
    let exit = err_from_is_err_and c.from_residual.result c.from_residual.ensures.1 in
    let s0 = stand_of c.args.self.now in
    let s1 = stand_of c.follow_text.new.self in
    rw (exit.1, exit.2)
    (stops-on follow_line layout from_system s0 s1 s1 c.in_err-follow_text.field-0.0 c.in_err-follow_text.ensures)

pub returns-in_err-follow_text-2 : goal.returns-in_err-follow_text-2
returns-in_err-follow_text-2 c =
    let exit = err_from_is_err_and c.from_residual-in_err-follow_text-2.result c.from_residual-in_err-follow_text-2.ensures.1 in
    let s0 = stand_of c.args.self.now in
    let s1 = stand_of c.follow_text.new.self in
    let s2 = stand_of c.follow_text-2.new.self in
    let ending = c.in_err-follow_text-2.field-0.0 in
    rw (exit.1, exit.2)
    (goes-on follow_line layout from_system s0 s1 s2 (Err ending) c.in_ok-follow_text.ensures
    (stops-on follow_line system from_admin s1 s2 s2 ending c.in_err-follow_text-2.ensures))

pub returns-in_err-follow_text-3 : goal.returns-in_err-follow_text-3
returns-in_err-follow_text-3 c =
    let exit = err_from_is_err_and c.from_residual-in_err-follow_text-3.result c.from_residual-in_err-follow_text-3.ensures.1 in
    let s0 = stand_of c.args.self.now in
    let s1 = stand_of c.follow_text.new.self in
    let s2 = stand_of c.follow_text-2.new.self in
    let s3 = stand_of c.follow_text-3.new.self in
    let ending = c.in_err-follow_text-3.field-0.0 in
    rw (exit.1, exit.2)
    (goes-on follow_line layout from_system s0 s1 s3 (Err ending) c.in_ok-follow_text.ensures
    (goes-on follow_line system from_admin s1 s2 s3 (Err ending) c.in_ok-follow_text-2.ensures
    (stops-on follow_line admin from_normal s2 s3 s3 ending c.in_err-follow_text-3.ensures)))

pub returns-in_err-follow_text-4 : goal.returns-in_err-follow_text-4
returns-in_err-follow_text-4 c =
    let exit = err_from_is_err_and c.from_residual-in_err-follow_text-4.result c.from_residual-in_err-follow_text-4.ensures.1 in
    let s0 = stand_of c.args.self.now in
    let s1 = stand_of c.follow_text.new.self in
    let s2 = stand_of c.follow_text-2.new.self in
    let s3 = stand_of c.follow_text-3.new.self in
    let s4 = stand_of c.follow_text-4.new.self in
    let ending = c.in_err-follow_text-4.field-0.0 in
    rw (exit.1, exit.2)
    (goes-on follow_line layout from_system s0 s1 s4 (Err ending) c.in_ok-follow_text.ensures
    (goes-on follow_line system from_admin s1 s2 s4 (Err ending) c.in_ok-follow_text-2.ensures
    (goes-on follow_line admin from_normal s2 s3 s4 (Err ending) c.in_ok-follow_text-3.ensures
    (stops-on follow_line normal guest s3 s4 s4 ending c.in_err-follow_text-4.ensures))))

pub returns : goal.returns
returns c =
    let s0 = stand_of c.args.self.now in
    let s1 = stand_of c.follow_text.new.self in
    let s2 = stand_of c.follow_text-2.new.self in
    let s3 = stand_of c.follow_text-3.new.self in
    let s4 = stand_of c.follow_text-4.new.self in
    let s5 = stand_of c.follow_text-5.new.self in
    let result = c.follow_text-5.result in
    goes-on follow_line layout from_system s0 s1 s5 result c.in_ok-follow_text.ensures
    (goes-on follow_line system from_admin s1 s2 s5 result c.in_ok-follow_text-2.ensures
    (goes-on follow_line admin from_normal s2 s3 s5 result c.in_ok-follow_text-3.ensures
    (goes-on follow_line normal guest s3 s4 s5 result c.in_ok-follow_text-4.ensures c.follow_text-5.ensures)))
