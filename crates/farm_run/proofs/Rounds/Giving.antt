-- What a round takes of a line, whatever fails.
use Rattle.std.proofs.Common.{◌≡◌, refl, sym, ap, ◌∙◌, ℕ, ◌+◌, ◌<◌, ◌≤◌, Bool, true, false, Option, Some, None, List, [], ◌++◌, length, take, drop, inl, inr, ◌-◌}
use Rattle.std.proofs.Common.{arith, append_assoc, append-nil}
use Rattle.std.specs.Prelude.{min}
use Rattle.std.specs.Io.KnownBytes.{Consumes, IsAtEnd}
use Rattle.std.proofs.lemmas.Bool.{cases_lt}
use Rattle.std.proofs.lemmas.List.{length-drop, drop-drop, length-append, length-take-le, append_cancel_right, take_all, drop_all}
use Rattle.std.proofs.Math.Seq.{take-append_seam, drop-append_seam}
use Rattle.trau_io.specs.Lines.{LineState}
use Rattle.round_lines.specs.declared.transfer.Taken.{Taken}
use Rattle.round_lines.specs.Transfer.{Takes}
use Rattle.farm_run.specs.Standing.{IsToCome}
use Rattle.farm_run.proofs.Clocks.Meeting.{Meets}

-- the octets that are to come split into those that came and the others
split : (u v : Option (List ℕ)) (front xs : List ℕ) → Consumes u v front → u ≡ Some xs → (ys : List ℕ) × (v ≡ Some ys) × (xs ≡ front ++ ys)
split None v front xs c e = cc
split (Some zs) None front xs c e = absurd c
split (Some zs) (Some ys) front xs c e = (ys, refl, same zs xs e ∙ c)
  where
    same : (zs xs : List ℕ) → Some zs ≡ Some xs → xs ≡ zs
    same zs xs e = cc

some_same : (xs ys : List ℕ) → Some xs ≡ Some ys → xs ≡ ys
some_same xs ys e = cc

-- a line at its end holds nothing
at_end : (u : Option (List ℕ)) (ys : List ℕ) → u ≡ Some ys → IsAtEnd u → ys ≡ []
at_end None ys e h = cc
at_end (Some zs) ys e h = some_same ys zs (sym e) ∙ h

-- what came of the run's octets `line`
record Came (m : ℕ) (line rest : List ℕ) (failed : Bool) (now : LineState) (t : Taken) (block : List ℕ) : Type 0 where
  pub count : t.count ≡ min m (length line)
  pub fails : t.count < m → t.failed ≡ failed
  pub octets : take t.count block ≡ take t.count line
  pub left : now.to_come ≡ Some (drop m line ++ rest)

module _ (m : ℕ) (line rest : List ℕ) (failed : Bool) (now : LineState) (t : Taken) (block : List ℕ)
    (bound : t.count ≤ m) (long : length block ≡ m) where
  -- as many octets were taken as were counted
  taken_long : length (take t.count block) ≡ t.count
  taken_long = length-take-le t.count block (omega (arith, bound, long))

  -- all of them came, and not as many as the block holds
  short : t.count < m → t.failed ≡ failed → line ≡ take t.count block → now.to_come ≡ Some rest → Came m line rest failed now t block
  short l f e left =
      let n : length line ≡ t.count = ap length e ∙ taken_long in
      record {
        count = omega (arith, n, l);
        fails = λ k. f;
        octets = sym (take_all t.count line (omega (arith, n)) ∙ e);
        left = left ∙ ap (λ (xs : List ℕ). Some (xs ++ rest)) (sym (drop_all m line (omega (arith, n, l))));
      }

  -- the block is full
  full : t.count ≡ m → (x : List ℕ) → line ≡ take t.count block ++ x → now.to_come ≡ Some (x ++ rest) → Came m line rest failed now t block
  full q x e left =
      let n : length line ≡ t.count + length x = ap length e ∙ length-append (take t.count block) x ∙ ap (λ (i : ℕ). i + length x) taken_long in
      let seam : drop (length (take t.count block)) line ≡ x = ap (drop (length (take t.count block))) e ∙ drop-append_seam (take t.count block) x in
      let front : take (length (take t.count block)) line ≡ take t.count block = ap (take (length (take t.count block))) e
      ∙ take-append_seam (take t.count block) x in
      record {
        count = omega (arith, n, q);
        fails = λ k. absurd (omega (arith, q, k));
        octets = sym (ap (λ (i : ℕ). take i line) (sym taken_long) ∙ front);
        left = left ∙ ap (λ (xs : List ℕ). Some (xs ++ rest)) (sym (ap (λ (i : ℕ). drop i line) (sym q ∙ sym taken_long) ∙ seam));
      }

-- a line gives its next octets until the round is full, or it ends or fails
came : (m : ℕ) (line rest : List ℕ) (failed : Bool) (was now : LineState) (t : Taken)
    (block : List ℕ) → Takes was now t block → length block ≡ m →
    was.to_come ≡ Some (line ++ rest) → Meets m rest failed now t → Came m line rest failed now t block
came m line rest failed was now t block h long told meets = by t.failed refl failed refl
  where
    bound : t.count ≤ m
    bound = omega (arith, h.bound, long)

    parts : (ys : List ℕ) × (now.to_come ≡ Some ys) × (line ++ rest ≡ take t.count block ++ ys)
    parts = split was.to_come now.to_come (take t.count block) (line ++ rest) h.given told

    by : (f : Bool) → t.failed ≡ f → (g : Bool) → failed ≡ g → Came m line rest failed now t block
    by true e g q =
        let here = meets.here e in
        let ys : parts.0 ≡ rest = some_same parts.0 rest (sym parts.1 ∙ here.1) in
        let all : line ≡ take t.count block =
        append_cancel_right line (take t.count block) rest (parts.2 ∙ ap (λ (xs : List ℕ). take t.count block ++ xs) ys) in
        short m line rest failed now t block bound long (omega (arith, h.short e, long)) (e ∙ sym here.0) all here.1
    by false e true q =
        let ahead = meets.ahead e q in
        let x = ahead.1.0 in
        let ys : parts.0 ≡ x ++ rest = some_same parts.0 (x ++ rest) (sym parts.1 ∙ ahead.1.1) in
        let all : line ≡ take t.count block ++ x =
        append_cancel_right line (take t.count block ++ x) rest (parts.2 ∙ ap (λ (xs : List ℕ). take t.count block ++ xs) ys
        ∙ sym (append_assoc (take t.count block) x rest)) in
        full m line rest failed now t block bound long ahead.0 x all ahead.1.1
    by false e false q =
        let none = meets.whole q in
        let all : line ≡ take t.count block ++ parts.0 = sym (append-nil line) ∙ ap (λ (xs : List ℕ). line ++ xs) (sym none) ∙ parts.2 in
        elim (cases_lt t.count m) [
          | inl l ↦
              let end : parts.0 ≡ [] = at_end now.to_come parts.0 parts.1 (h.ended e (omega (arith, l, long))) in
              short m line rest failed now t block bound long l (e ∙ sym q)
              (all ∙ ap (λ (xs : List ℕ). take t.count block ++ xs) end ∙ append-nil (take t.count block)) (parts.1 ∙ ap Some (end ∙ sym none))
          | inr l ↦ full m line rest failed now t block bound long (omega arith) parts.0 all
              (parts.1 ∙ ap Some (sym (append-nil parts.0) ∙ ap (λ (xs : List ℕ). parts.0 ++ xs) (sym none)))
        ]

-- What a round's read of at most m octets took of a line, after the run's first k octets of it were read.
pub record GaveBlock (m k : ℕ) (line rest : List ℕ) (failing : Bool) (now : LineState) (t : Taken)
    (block : List ℕ) : Type 0 where
  -- it took the run's next octets: m of them, or as many as the line has
  pub count : t.count ≡ min m (length line - k)
  pub octets : take t.count block ≡ take t.count (drop k line)
  pub left : IsToCome now (k + m) line rest
  -- a line that gave fewer than m failed in this round exactly if it fails in the run
  pub fails : t.count < m → t.failed ≡ failing

-- **What a round took of a line is what the run says, whether the line fails in it, later or never.**
pub gave : (m k : ℕ) (line rest : List ℕ) (failed : Bool) (was now : LineState) (t : Taken)
    (block : List ℕ) → Takes was now t block → length block ≡ m →
    IsToCome was k line rest → Meets m rest failed now t →
    GaveBlock m k line rest failed now t block
gave m k line rest failed was now t block h long told meets =
    let c = came m (drop k line) rest failed was now t block h long told meets in
    record {
      count = c.count ∙ ap (min m) (length-drop k line);
      fails = c.fails;
      octets = c.octets;
      left = c.left ∙ ap (λ (xs : List ℕ). Some (xs ++ rest)) (drop-drop m k line);
    }
