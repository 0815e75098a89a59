use Rattle.std.proofs.Common.{◌≡◌, ℕ, List, [], ◌∷◌, Err}
use Rattle.std.proofs.lemmas.Result.{err_from_is_err_and}
use Rattle.sample_runs.specs.Lines.{check_line}
use Rattle.sample_runs.specs.Sample.{ask_line}
use Rattle.sample_runs.specs.parts.Asking.{asked_of}
use Rattle.sample_runs.proofs.Going.{goes-on, stops-on}
use Rattle.sample_runs.proofs.tallies.ask_app.Goals as goal

-- the questions of each user, and those from it on
abbrev one : ℕ → ℕ → List (List ℕ)
one app user = check_line app user ∷ []

abbrev from_third : ℕ → List (List ℕ)
from_third app = check_line app 5003 ∷ check_line app 5004 ∷ []

abbrev from_second : ℕ → List (List ℕ)
from_second app = check_line app 5002 ∷ from_third app

pub returns-in_err-ask_user-clause-asks : goal.returns-in_err-ask_user-clause-asks
returns-in_err-ask_user-clause-asks c =
    let exit = err_from_is_err_and c.from_residual.result c.from_residual.ensures.1 in
    let app = c.args.app in
    let s0 = asked_of c.args.sample.now c.args.tally.now in
    let s1 = asked_of c.ask_user.new.sample c.ask_user.new.tally in
    rw (exit.1, exit.2)
    (stops-on (ask_line c.args.index.now) (one app 5001) (from_second app) s0 s1 s1 c.in_err-ask_user.field-0.0
    c.in_err-ask_user.ensures.asks)

pub returns-in_err-ask_user-2-clause-asks : goal.returns-in_err-ask_user-2-clause-asks
returns-in_err-ask_user-2-clause-asks c =
    let exit = err_from_is_err_and c.from_residual-in_err-ask_user-2.result c.from_residual-in_err-ask_user-2.ensures.1 in
    let step = ask_line c.args.index.now in
    let app = c.args.app in
    let s0 = asked_of c.args.sample.now c.args.tally.now in
    let s1 = asked_of c.ask_user.new.sample c.ask_user.new.tally in
    let s2 = asked_of c.ask_user-2.new.sample c.ask_user-2.new.tally in
    let ending = c.in_err-ask_user-2.field-0.0 in
    rw (exit.1, exit.2)
    (goes-on step (one app 5001) (from_second app) s0 s1 s2 (Err ending) c.in_ok-ask_user.ensures.asks
    (stops-on step (one app 5002) (from_third app) s1 s2 s2 ending c.in_err-ask_user-2.ensures.asks))

pub returns-in_err-ask_user-3-clause-asks : goal.returns-in_err-ask_user-3-clause-asks
returns-in_err-ask_user-3-clause-asks c =
    let exit = err_from_is_err_and c.from_residual-in_err-ask_user-3.result c.from_residual-in_err-ask_user-3.ensures.1 in
    let step = ask_line c.args.index.now in
    let app = c.args.app in
    let s0 = asked_of c.args.sample.now c.args.tally.now in
    let s1 = asked_of c.ask_user.new.sample c.ask_user.new.tally in
    let s2 = asked_of c.ask_user-2.new.sample c.ask_user-2.new.tally in
    let s3 = asked_of c.ask_user-3.new.sample c.ask_user-3.new.tally in
    let ending = c.in_err-ask_user-3.field-0.0 in
    rw (exit.1, exit.2)
    (goes-on step (one app 5001) (from_second app) s0 s1 s3 (Err ending) c.in_ok-ask_user.ensures.asks
    (goes-on step (one app 5002) (from_third app) s1 s2 s3 (Err ending) c.in_ok-ask_user-2.ensures.asks
    (stops-on step (one app 5003) (one app 5004) s2 s3 s3 ending c.in_err-ask_user-3.ensures.asks)))

pub returns-clause-asks : goal.returns-clause-asks
returns-clause-asks c =
    let step = ask_line c.args.index.now in
    let app = c.args.app in
    let s0 = asked_of c.args.sample.now c.args.tally.now in
    let s1 = asked_of c.ask_user.new.sample c.ask_user.new.tally in
    let s2 = asked_of c.ask_user-2.new.sample c.ask_user-2.new.tally in
    let s3 = asked_of c.ask_user-3.new.sample c.ask_user-3.new.tally in
    let s4 = asked_of c.ask_user-4.new.sample c.ask_user-4.new.tally in
    let result = c.ask_user-4.result in
    goes-on step (one app 5001) (from_second app) s0 s1 s4 result c.in_ok-ask_user.ensures.asks
    (goes-on step (one app 5002) (from_third app) s1 s2 s4 result c.in_ok-ask_user-2.ensures.asks
    (goes-on step (one app 5003) (one app 5004) s2 s3 s4 result c.in_ok-ask_user-3.ensures.asks c.ask_user-4.ensures.asks))
