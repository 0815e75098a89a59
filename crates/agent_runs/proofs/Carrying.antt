-- What went over a link in calls one after the other.
use Rattle.std.proofs.Common.{◌≡◌, ◌<◌, ℕ, List, [], ◌++◌, Bool, true, false, ◌&&◌, ◌||◌, ltb, eqb, Some, Ok, refl, sym, ap, ◌∙◌, subst, append_assoc, append-nil, arith}
use Rattle.std.proofs.lemmas.Bool.Decides.{nat_tests}
use Rattle.link_ports.specs.Told.{ChangesTold, KeepsTold}
use Rattle.link_ports.specs.Traffic.{Traffic, with_received, with_sent}
use Rattle.link_ports.specs.LinkMarks.{LinkMarks, marks_after_receive}
use Rattle.agent_runs.specs.LinkSeen.{LinkSeen, with_end, Carries}

-- ---- tests

or_false : (b : Bool) → (b || false) ≡ b
or_false true = refl
or_false false = refl

or_assoc : (a b c : Bool) → ((a || b) || c) ≡ (a || (b || c))
or_assoc true b c = refl
or_assoc false b c = refl

above : (n : ℕ) → 0 < n → ltb 0 n ≡ true
above n some = grind (arith, nat_tests)

not_none : (n : ℕ) → 0 < n → eqb n 0 ≡ false
not_none n some = grind (arith, nat_tests)

-- ---- marks

same_marks : (marks : LinkMarks) → with_end false marks ≡ marks
same_marks marks = λ i. record marks { has_ended = or_false marks.has_ended i }

more_marks : (a b : Bool) (marks : LinkMarks) → with_end b (with_end a marks) ≡ with_end (a || b) marks
more_marks a b marks = λ i. record marks { has_ended = or_assoc marks.has_ended a b i }

-- some bytes came
pub marks-some : (count room : ℕ) (marks : LinkMarks) → 0 < count → marks_after_receive (Ok count) room marks ≡ with_end false marks
marks-some count room marks some = ap (λ b. with_end (b && ltb 0 room) marks) (not_none count some)

-- ---- traffic

-- nothing was sent
none_sent : (bytes : List ℕ) (before : Traffic) → with_received bytes before ≡ with_received bytes (with_sent [] before)
none_sent bytes before = λ i. record { received = before.received ++ bytes; sent = sym (append-nil before.sent) i }

-- nothing was received
none_received : (before : Traffic) → before ≡ with_received [] before
none_received before = λ i. record { received = sym (append-nil before.received) i; sent = before.sent }

-- nothing went over the link
pub carries-nothing : (link : LinkSeen) → Carries [] [] false link link
carries-nothing link = record {
  traffic = λ before told. told ∙ ap Some (none_received before ∙ none_sent [] before);
  marks = sym (same_marks link.marks);
}

-- nothing went over a link that is the same
pub carries-same : (link after : LinkSeen) → after ≡ link → Carries [] [] false link after
carries-same link after same = subst (λ after. Carries [] [] false link after) (sym same) (carries-nothing link)

pub carries-then : (s s' r r' : List ℕ) (a b : Bool) (first second third : LinkSeen) → Carries s r a first second
    → Carries s' r' b second third → Carries (s ++ s') (r ++ r') (a || b) first third
carries-then s s' r r' a b first second third one two = record {
  traffic = λ before told.
      two.traffic (with_received r (with_sent s before)) (one.traffic before told)
      ∙ ap Some (λ i. record { received = append_assoc before.received r r' i; sent = append_assoc before.sent s s' i });
  marks = two.marks ∙ (ap (with_end b) one.marks ∙ more_marks a b first.marks);
}

-- bytes were received
pub carries-received : (bytes : List ℕ) (found : Bool) (link after : LinkSeen)
    → ChangesTold link.traffic (with_received bytes) after.traffic → after.marks ≡ with_end found link.marks
    → Carries [] bytes found link after
carries-received bytes found link after received marks = record {
  traffic = λ before told. received before told ∙ ap Some (none_sent bytes before);
  marks = marks;
}

-- bytes were sent
pub carries-sent : (bytes : List ℕ) (link after : LinkSeen) → ChangesTold link.traffic (with_sent bytes) after.traffic
    → after.marks ≡ link.marks → Carries bytes [] false link after
carries-sent bytes link after sent marks = record {
  traffic = λ before told. sent before told ∙ ap Some (none_received (with_sent bytes before));
  marks = marks ∙ sym (same_marks link.marks);
}

-- a call kept all as it was
pub carries-kept : (link after : LinkSeen) → KeepsTold link.traffic after.traffic → after.marks ≡ link.marks
    → Carries [] [] false link after
carries-kept link after kept marks = record {
  traffic = λ before told. kept before told ∙ ap Some (none_received before ∙ none_sent [] before);
  marks = marks ∙ sym (same_marks link.marks);
}

-- bytes were received behind what went over the link before
pub carries-heard : (s r bytes : List ℕ) (found : Bool) (first second third : LinkSeen) → Carries s r false first second
    → Carries [] bytes found second third → Carries s (r ++ bytes) found first third
carries-heard s r bytes found first second third one two =
    subst (λ sent. Carries sent (r ++ bytes) found first third) (append-nil s)
    (carries-then s [] r bytes false found first second third one two)

-- bytes were sent behind what went over the link before
pub carries-answered : (s r frame : List ℕ) (first second third : LinkSeen) → Carries s r false first second
    → Carries frame [] false second third → Carries (s ++ frame) r false first third
carries-answered s r frame first second third one two =
    subst (λ received. Carries (s ++ frame) received false first third) (append-nil r)
    (carries-then s frame r [] false false first second third one two)
