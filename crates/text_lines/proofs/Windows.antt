-- A buffer of bytes, and what is read behind those at its front.
use Rattle.std.proofs.Common.{◌≡◌, ◌≤◌, ◌+◌, ◌++◌, ℕ, List, length, take, sym, ap, ◌∙◌}
use Rattle.std.proofs.Math.Seq.{take-append-add}
use Rattle.std.proofs.lemmas.List.{length-take-le, take-append-le}
use borrow.Rule.Slice.PartMut.{put_mid, post_of}

-- the bytes up to the end of what was read
pub take-read : (end size count : ℕ) (buffer into : List ℕ) → end ≤ length buffer → count ≤ length into
    → take (end + count) (put_mid end size buffer into) ≡ take end buffer ++ take count into
take-read end size count buffer into within read =
    let front = length-take-le end buffer within in
    ap (λ n. take (n + count) (put_mid end size buffer into)) (sym front)
    ∙ (take-append-add (take end buffer) (into ++ post_of end size buffer) count
    ∙ ap (λ bytes. take end buffer ++ bytes) (take-append-le count into (post_of end size buffer) read))
