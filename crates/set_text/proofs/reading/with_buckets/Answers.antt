use Rattle.std.proofs.Common.{◌≡◌, List, [], Ok, map, None, subst, sym, ap, ◌∙◌}
use Rattle.std.specs.List.Sorted.{IsStrictlySortedBy}
use Rattle.bucket_store.specs.Database.{Heading}
use Rattle.bucket_store.specs.Order.{heading_cmp}
use Rattle.set_text.specs.Buckets.{headings_of}
use Rattle.set_text.specs.Fault.{bytes_in}
use Rattle.set_text.specs.FileNames.{buckets, bucket_file, is_bucket_file}
use Rattle.set_text.specs.Reading.{odd_file, buckets_behind}
use Rattle.set_text.specs.Refusal.{Refuses}
use Rattle.set_text.specs.parts.Names.{RefusesTest}
use Rattle.set_text.proofs.ReadingBuckets.{in_file-ok, headings-are, sound-of}
use Rattle.set_text.proofs.ReadingStages.{to-template, stop-names, stop-buckets, stop-registry}
use Rattle.set_text.proofs.reading.with_buckets.Goals as goal

pub buckets_in-requires-clause-headings : goal.buckets_in-requires-clause-headings
buckets_in-requires-clause-headings c =
    let text = bytes_in c.args.files.now buckets in
    let headings = c.args.headings.items in
    subst (IsStrictlySortedBy heading_cmp) (sym c.deref-2.ensures.value)
    (headings-are text headings (in_file-ok buckets (headings_of text) headings c.requires.headings)).rise

pub returns-clause-read : goal.returns-clause-read
returns-clause-read c =
    let files = c.args.files.now in
    let headings = c.args.headings.items in
    let none : odd_file is_bucket_file (map (λ (heading : Heading). bucket_file heading.name) headings) files ≡ None =
    sym (ap (λ (list : List Heading). odd_file is_bucket_file
    (map (λ (heading : Heading). bucket_file heading.name) list) files) c.deref.ensures.value)
    ∙ c.in-Ok.ensures in
    let read : buckets_behind files headings [] headings ≡ Ok c.in-Ok-buckets_in.buckets.items =
    sym (ap (λ (list : List Heading). buckets_behind files list [] list) c.deref-2.ensures.value)
    ∙ c.in-Ok-buckets_in.ensures in
    c.requires.read
    ∙ to-template files c.args.commit headings c.in-Ok-buckets_in.buckets.items c.in-Ok-registry_in.registry none read
    c.in-Ok-registry_in.ensures

pub returns-clause-sound : goal.returns-clause-sound
returns-clause-sound c =
    let files = c.args.files.now in
    let text = bytes_in files buckets in
    let headings = c.args.headings.items in
    let read : buckets_behind files headings [] headings ≡ Ok c.in-Ok-buckets_in.buckets.items =
    sym (ap (λ (list : List Heading). buckets_behind files list [] list) c.deref-2.ensures.value)
    ∙ c.in-Ok-buckets_in.ensures in
    sound-of files text headings c.in-Ok-buckets_in.buckets.items
    (in_file-ok buckets (headings_of text) headings c.requires.headings) read

pub returns-in-Err-clause-refused : goal.returns-in-Err-clause-refused
returns-in-Err-clause-refused c =
    let files = c.args.files.now in
    let headings = c.args.headings.items in
    let refusal = c.in-Err.refusal in
    subst (Refuses refusal) (sym c.requires.read) (stop-names refusal files c.args.commit headings
    (subst (λ (list : List Heading). RefusesTest refusal
    (odd_file is_bucket_file (map (λ (heading : Heading). bucket_file heading.name) list) files))
    c.deref.ensures.value c.in-Err.ensures))

pub returns-in-Err-buckets_in-clause-refused : goal.returns-in-Err-buckets_in-clause-refused
returns-in-Err-buckets_in-clause-refused c =
    let files = c.args.files.now in
    let headings = c.args.headings.items in
    let refusal = c.in-Err-buckets_in.refusal in
    let none : odd_file is_bucket_file (map (λ (heading : Heading). bucket_file heading.name) headings) files ≡ None =
    sym (ap (λ (list : List Heading). odd_file is_bucket_file
    (map (λ (heading : Heading). bucket_file heading.name) list) files) c.deref.ensures.value)
    ∙ c.in-Ok.ensures in
    subst (Refuses refusal) (sym c.requires.read) (stop-buckets refusal files c.args.commit headings none
    (subst (λ (list : List Heading). Refuses refusal
    (buckets_behind files list [] list)) c.deref-2.ensures.value c.in-Err-buckets_in.ensures))

pub returns-in-Err-registry_in-clause-refused : goal.returns-in-Err-registry_in-clause-refused
returns-in-Err-registry_in-clause-refused c =
    let files = c.args.files.now in
    let headings = c.args.headings.items in
    let refusal = c.in-Err-registry_in.refusal in
    let buckets = c.in-Ok-buckets_in.buckets.items in
    let none : odd_file is_bucket_file (map (λ (heading : Heading). bucket_file heading.name) headings) files ≡ None =
    sym (ap (λ (list : List Heading). odd_file is_bucket_file
    (map (λ (heading : Heading). bucket_file heading.name) list) files) c.deref.ensures.value)
    ∙ c.in-Ok.ensures in
    let read : buckets_behind files headings [] headings ≡ Ok buckets =
    sym (ap (λ (list : List Heading). buckets_behind files list [] list) c.deref-2.ensures.value)
    ∙ c.in-Ok-buckets_in.ensures in
    subst (Refuses refusal) (sym c.requires.read)
    (stop-registry refusal files c.args.commit headings buckets none read c.in-Err-registry_in.ensures)
