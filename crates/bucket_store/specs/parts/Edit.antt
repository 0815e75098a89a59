-- What an edit of the buckets, at a place that a search gave, makes of them.
use Rattle.std.specs.Prelude.{ℕ, not, List, [], slice_index_or, slice_set, Result, Ok, Err}
use Rattle.std.specs.List.{filter, insert}
use Rattle.cynara_keys.specs.PolicyResult.{Ruling}
use Rattle.cynara_keys.specs.declared.keys.Policy.{Policy}
use Rattle.bucket_store.specs.Bucket.{Bucket}
use Rattle.bucket_store.specs.Walk.{points_to}

-- the bucket of this name with this fallback and these policies
abbrev pub bucket_of : List ℕ → Ruling → List Policy → Bucket
bucket_of name fallback policies = record { name = name; fallback = fallback; policies = policies }

-- a bucket that is there keeps its policies, and a new one has none
abbrev pub headed : Result ℕ ℕ → List ℕ → Ruling → List Bucket → List Bucket
headed (Ok at) name fallback buckets =
    slice_set buckets at (bucket_of name fallback (slice_index_or buckets at (bucket_of name fallback [])).policies)
headed (Err at) name fallback buckets = insert buckets at (bucket_of name fallback [])

abbrev pub without_links : List ℕ → Bucket → Bucket
without_links name bucket =
    bucket_of bucket.name bucket.fallback (filter (λ policy. not (points_to name policy)) bucket.policies)

-- the bucket at the place has these policies
abbrev pub filled : ℕ → List Policy → List Bucket → List Bucket
filled at policies buckets =
    let bucket = slice_index_or buckets at (bucket_of [] (record { kind = 0; metadata = [] }) []) in
    slice_set buckets at (bucket_of bucket.name bucket.fallback policies)
