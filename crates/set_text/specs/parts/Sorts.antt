-- The sorts of files.
use Rattle.std.specs.Prelude.{ℕ, Bool, List}
use Rattle.set_text.specs.FileNames.{is_bucket_file, is_load_file, is_other_file}
use Rattle.set_text.specs.declared.file_names.Sort.{Sort}
use Rattle.set_text.specs.declared.file_names.Sort.TheVariants.{Bucket, Load, Other}

-- whether the file of a name is of a sort
abbrev pub is_of : Sort → List ℕ → Bool
is_of Bucket name = is_bucket_file name
is_of Load name = is_load_file name
is_of Other name = is_other_file name
