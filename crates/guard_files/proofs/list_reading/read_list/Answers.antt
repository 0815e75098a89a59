use Rattle.std.proofs.Common.{◌≡◌, List, ℕ, IfOk, Vec, Global, sym, subst}
use Rattle.std.proofs.lemmas.Bool.Decides.{Decides-eqb}
use Rattle.std.proofs.lemmas.Slice.Eq.{strip_prefix_is}
use Rattle.std.specs.Option.{option_map}
use Rattle.guard_files.specs.ListFile.{version_text}
use Rattle.guard_files.proofs.Versions.{listed-lines, listed-unversioned, with_line, without_line}
use Rattle.guard_files.proofs.list_reading.read_list.Goals as goal

pub returns-in-Some : goal.returns-in-Some
returns-in-Some c =
    let begins = with_line c.args.bytes.now c.strip_prefix.result c.in-Some.lines c.in-Some.is
    (strip_prefix_is Decides-eqb c.args.bytes.now version_text c.strip_prefix.result c.strip_prefix.ensures.cases) in
    subst (λ found. IfOk c.read_names.result (λ read. option_map (λ (names : Vec (List ℕ) Global). names.items) read ≡ found))
    (sym (listed-lines c.args.bytes.now c.in-Some.lines.now begins)) c.read_names.ensures

pub returns-in-None : goal.returns-in-None
returns-in-None c =
    let never = without_line c.args.bytes.now c.strip_prefix.result c.in-None.is
    (strip_prefix_is Decides-eqb c.args.bytes.now version_text c.strip_prefix.result c.strip_prefix.ensures.cases) in
    subst (λ found. IfOk c.read_names-in-None.result (λ read. option_map (λ (names : Vec (List ℕ) Global). names.items) read ≡ found))
    (sym (listed-unversioned c.args.bytes.now never)) c.read_names-in-None.ensures
