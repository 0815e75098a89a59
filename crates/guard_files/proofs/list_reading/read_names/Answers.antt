use Rattle.std.proofs.Common.{◌≡◌, ◌++◌, [], ◌∷◌, suc, take, drop, true, sym, ◌∙◌, ap, refl, is_lt, nat_cmp}
use Rattle.std.specs.Cmp.Lexicographic.{slice_cmp}
use Rattle.guard_files.specs.OwnName.{is_listable}
use Rattle.guard_files.specs.ListFile.{list_text, are_listable}
use Rattle.guard_files.specs.parts.Last.{last_name}
use Rattle.guard_files.proofs.FileNames.{IsFileName-listable, listable_file}
use Rattle.guard_files.proofs.ListReading.{listed-whole, listed-cut, listed-bad_line, listed-unsorted, first_line-at, are_listable-push, last_name-push, more_left, none_left, read_more}
use Rattle.guard_files.proofs.list_reading.read_names.Goals as goal

pub returns-in_default : goal.returns-in_default
returns-in_default c =
    sym (listed-cut c.args.bytes.now c.loop-last.names.items c.loop-last.rest.now c.loop-last.invariant.listable c.loop-last.invariant.read
    (more_left c.loop-last.rest.now c.is_empty.result c.is_empty.ensures c.loop-last-test.true) (sym c.newline_in.ensures ∙ c.in_default.is))

pub returns-then-not-is_listable : goal.returns-then-not-is_listable
returns-then-not-is_listable c =
    let line = first_line-at c.loop-last.rest.now c.in-Some.end (sym c.newline_in.ensures ∙ c.in-Some.is) in
    sym (listed-bad_line c.args.bytes.now (take c.in-Some.end c.loop-last.rest.now) (drop (suc c.in-Some.end) c.loop-last.rest.now) c.loop-last.names.items c.loop-last.rest.now
    c.loop-last.invariant.listable c.loop-last.invariant.read line.lines (sym c.is_listable.ensures ∙ c.if-not-is_listable.true))

pub returns-then-not-is_below : goal.returns-then-not-is_below
returns-then-not-is_below c =
    let line = first_line-at c.loop-last.rest.now c.in-Some.end (sym c.newline_in.ensures ∙ c.in-Some.is) in
    let listable : is_listable (take c.in-Some.end c.loop-last.rest.now) ≡ true = sym c.is_listable.ensures ∙ c.if-not-is_listable.false in
    sym (listed-unsorted c.args.bytes.now (take c.in-Some.end c.loop-last.rest.now) (drop (suc c.in-Some.end) c.loop-last.rest.now) c.loop-last.names.items c.loop-last.rest.now
    c.loop-last.invariant.listable c.loop-last.invariant.read line.lines (listable_file (take c.in-Some.end c.loop-last.rest.now) listable).some
    (ap (λ last. is_lt (slice_cmp nat_cmp last (take c.in-Some.end c.loop-last.rest.now))) (sym c.loop-last.invariant.last)
    ∙ sym c.is_below.ensures ∙ c.if-not-is_below.true))

pub fixed_name-requires : goal.fixed_name-requires
fixed_name-requires c = IsFileName-listable (take c.in-Some.end c.loop-last.rest.now) (sym c.is_listable.ensures ∙ c.if-not-is_listable.false)

pub loop-last-preserved : goal.loop-last-preserved
loop-last-preserved c =
    let line = first_line-at c.loop-last.rest.now c.in-Some.end (sym c.newline_in.ensures ∙ c.in-Some.is) in
    let listable : is_listable (take c.in-Some.end c.loop-last.rest.now) ≡ true = sym c.is_listable.ensures ∙ c.if-not-is_listable.false in
    let items : c.push.new.self.items ≡ c.loop-last.names.items ++ take c.in-Some.end c.loop-last.rest.now ∷ [] =
    c.in_ok-push.ensures.items ∙ ap (λ name. c.loop-last.names.items ++ name ∷ []) c.in_ok-fixed_name.ensures in
    record {
      read =
          read_more c.loop-last.names.items c.push.new.self.items c.loop-last.rest.now c.args.bytes.now (take c.in-Some.end c.loop-last.rest.now)
          c.split_at.result.1.now c.in-Some.end items refl c.split_at.ensures.back line c.loop-last.invariant.read;
      listable =
          ap are_listable items
          ∙ are_listable-push c.loop-last.names.items (take c.in-Some.end c.loop-last.rest.now) c.loop-last.invariant.listable listable
          (ap (λ last. is_lt (slice_cmp nat_cmp last (take c.in-Some.end c.loop-last.rest.now))) (sym c.loop-last.invariant.last)
          ∙ sym c.is_below.ensures ∙ c.if-not-is_below.false);
      last = sym (ap last_name items ∙ last_name-push c.loop-last.names.items (take c.in-Some.end c.loop-last.rest.now));
    }

pub returns : goal.returns
returns c =
    sym (listed-whole c.args.bytes.now c.loop-last.names.items c.loop-last.invariant.listable
    (ap (λ rest. list_text c.loop-last.names.items ++ rest) (sym (none_left c.loop-last.rest.now c.is_empty.result c.is_empty.ensures c.loop-last-test.false))
    ∙ c.loop-last.invariant.read))
