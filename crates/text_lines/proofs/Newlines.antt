-- Bytes with and without a newline.
use Rattle.std.proofs.Common.{◌≡◌, ℕ, Bool, true, false, ◌||◌, List, [], ◌∷◌, ◌++◌, ◌+◌, length, take, drop, refl, sym, ap, ◌∙◌, append_assoc}
use Rattle.std.proofs.Math.Seq.{take-add, take-append_seam}
use Rattle.std.proofs.lemmas.List.{take-append-drop}
use Rattle.std.specs.List.{list_any}
use Rattle.text_lines.specs.Lines.{HasNoNewline, is_newline}

pub list_any-none : (bytes : List ℕ) → HasNoNewline bytes → list_any is_newline bytes ≡ false
list_any-none [] none = refl
list_any-none (byte ∷ bytes) none =
    ap (λ b. b || list_any is_newline bytes) none.0 ∙ list_any-none bytes none.1

neither : (a b : Bool) → (a || b) ≡ false → (a ≡ false) × (b ≡ false)
neither true b h = cc
neither false b h = (refl, h)

pub none-list_any : (bytes : List ℕ) → list_any is_newline bytes ≡ false → HasNoNewline bytes
none-list_any [] none = tt
none-list_any (byte ∷ bytes) none =
    let parts = neither (is_newline byte) (list_any is_newline bytes) none in (parts.0, none-list_any bytes parts.1)

pub list_any-newline : (front rest : List ℕ) → list_any is_newline (front ++ 10 ∷ rest) ≡ true
list_any-newline [] rest = refl
list_any-newline (byte ∷ bytes) rest =
    ap (λ b. is_newline byte || b) (list_any-newline bytes rest)
    ∙ elim (is_newline byte) as (λ b. (b || true) ≡ true) [ true ↦ refl | false ↦ refl ]

pub HasNoNewline-append : (front back : List ℕ) → HasNoNewline front → HasNoNewline back → HasNoNewline (front ++ back)
HasNoNewline-append [] back first second = second
HasNoNewline-append (byte ∷ bytes) back first second = (first.0, HasNoNewline-append bytes back first.1 second)

module _ (bytes line rest : List ℕ) (count : ℕ) (parts : drop count bytes ≡ line ++ rest) where
  -- the bytes up to the end of the line
  pub take-on : take (count + length line) bytes ≡ take count bytes ++ line
  take-on =
      take-add count (length line) bytes
      ∙ ap (λ behind. take count bytes ++ behind) (ap (take (length line)) parts ∙ take-append_seam line rest)

  pub cut-on : bytes ≡ take (count + length line) bytes ++ rest
  cut-on =
      sym (take-append-drop count bytes)
      ∙ (ap (λ behind. take count bytes ++ behind) parts
      ∙ (sym (append_assoc (take count bytes) line rest) ∙ ap (λ front. front ++ rest) (sym take-on)))
