use Rattle.set_text.proofs.ReadingStages.{to-buckets}
use Rattle.set_text.proofs.reading.parts_in.Goals as goal

pub with_buckets-requires-clause-read : goal.with_buckets-requires-clause-read
with_buckets-requires-clause-read c =
    to-buckets c.args.files.now c.in_ok-commit.commit c.in_ok-headings.headings.items c.in_ok-test_fixed.ensures
    c.in_ok-commit.ensures
    c.in_ok-headings.ensures
