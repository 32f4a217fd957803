-- A list of bits has one list of found frames.
use Rattle.std.proofs.Common.{◌≡◌, ℕ, ◌+◌, List, [], ◌∷◌, refl, sym, ap, ◌∙◌, subst, inl, inr}
use Rattle.std.proofs.lemmas.Bool.{cases_order}
use Rattle.trau_frame.specs.Match.{bit_in, frame_at}
use Rattle.ccu_end.specs.Read.{down_frame_in}
use Rattle.ccu_end.specs.Found.{FoundFrame, is_found_at, FoundFrom}
use Rattle.ccu_end.proofs.Alike.{both_ways}

-- the first frames of two lists have one place
same_place : (bits : List ℕ) (low : ℕ) (f g : FoundFrame) (fs gs : List FoundFrame) → FoundFrom bits low (f ∷ fs) → FoundFrom bits low (g ∷ gs) →
    f.place ≡ g.place
same_place bits low f g fs gs a b = elim (cases_order f.place g.place) [
  | inl e ↦ e
  | inr o ↦ elim o [
    | inl l ↦ absurd (both_ways (is_found_at bits f.place) a.2 (b.1 f.place a.0 l))
    | inr l ↦ absurd (both_ways (is_found_at bits g.place) b.2 (a.1 g.place b.0 l))
  ]
]

-- frames with the same place that say the same
same_parts : (f g : FoundFrame) → f.place ≡ g.place → f.frame ≡ g.frame → f ≡ g
same_parts f g p e = ap (λ n. let h : FoundFrame = record { place = n; frame = f.frame } in h) p
    ∙ ap (λ x. let h : FoundFrame = record { place = g.place; frame = x } in h) e

-- so two lists of found frames are one
pub same_found : (bits : List ℕ) (low : ℕ) (fs gs : List FoundFrame) → FoundFrom bits low fs → FoundFrom bits low gs → fs ≡ gs
same_found bits low [] [] a b = refl
same_found bits low [] (g ∷ gs) a b = absurd (both_ways (is_found_at bits g.place) b.2 (a g.place b.0))
same_found bits low (f ∷ fs) [] a b = absurd (both_ways (is_found_at bits f.place) a.2 (b f.place a.0))
same_found bits low (f ∷ fs) (g ∷ gs) a b =
    let place : f.place ≡ g.place = same_place bits low f g fs gs a b in
    let frame : f.frame ≡ g.frame = a.3 ∙ ap (λ p. down_frame_in (frame_at (bit_in bits) p)) place ∙ sym b.3 in
    let rest : fs ≡ gs = same_found bits (f.place + 316) fs gs a.4 (subst (λ p. FoundFrom bits (p + 316) gs) (sym place) b.4) in
    let head : f ≡ g = same_parts f g place frame in
    ap (λ h. h ∷ fs) head ∙ ap (λ rest. g ∷ rest) rest
