-- For crates above: the shifts of made frames say where the frames are (`made-places`).
use Rattle.std.proofs.Common.{◌≡◌, ℕ, ◌+◌, ◌*◌, ℤ, List, [], ◌∷◌, ◌++◌, map, refl, sym, ap, ◌∙◌, arith}
use Rattle.std.proofs.lemmas.List.{map-append}
use Rattle.trau_frame.specs.declared.frames.DownFrame.{DownFrame}
use Rattle.down_framer.specs.Made.{Period, MadeFrame, octets_to_next, next_start, made_frames}
use Rattle.down_framer.proofs.Store.{AreInTurn, AreInTurn-made_frames}
use Rattle.ccu_end.specs.Found.{place_of, as_made, places_from, shifts_of}

-- where the next frame stands
end_from : ℕ → List ℤ → ℕ
end_from p [] = p
end_from p (v ∷ vs) = end_from (p + 2 * octets_to_next v) vs

-- one shift more: its place, and the end
places-more : (p : ℕ) (vs : List ℤ) (v : ℤ) → places_from p (vs ++ v ∷ []) ≡ places_from p vs ++ end_from p vs ∷ []
unfolding end_from
places-more p [] v = refl
places-more p (u ∷ vs) v = ap (λ ps. p ∷ ps) (places-more (p + 2 * octets_to_next u) vs v)

end-more : (p : ℕ) (vs : List ℤ) (v : ℤ) → end_from p (vs ++ v ∷ []) ≡ end_from p vs + 2 * octets_to_next v
unfolding end_from
end-more p [] v = refl
end-more p (u ∷ vs) v = end-more (p + 2 * octets_to_next u) vs v

-- the end is that of the made frames
end_is : {A : Type 0} (fs : List (MadeFrame A)) → AreInTurn fs → end_from 320 (shifts_of fs) ≡ 320 + 2 * next_start fs
unfolding end_from
end_is [] t = refl
end_is (f ∷ fs) t =
    let start : f.start ≡ next_start fs = t.0 in
    let before = end_is fs t.2 in
    end-more 320 (shifts_of fs) f.shift ∙ omega arith

-- and the places are theirs
places_are : {A : Type 0} (frame : List (MadeFrame A) → DownFrame) (fs : List (MadeFrame A)) → AreInTurn fs →
    map (λ f. f.place) (as_made frame fs) ≡ places_from 320 (shifts_of fs)
places_are frame [] t = refl
places_are frame (f ∷ fs) t =
    let start : f.start ≡ next_start fs = t.0 in
    let here : place_of f ≡ end_from 320 (shifts_of fs) = (let e : place_of f ≡ 320 + 2 * next_start fs = omega arith in e) ∙ sym (end_is fs t.2) in
    map-append (λ f. f.place) (as_made frame fs) _ ∙
    ap (λ ps. ps ++ place_of f ∷ []) (places_are frame fs t.2) ∙
    ap (λ p. places_from 320 (shifts_of fs) ++ p ∷ []) here ∙
    sym (places-more 320 (shifts_of fs) f.shift)

-- so of all that a framer makes
pub made-places : {A : Type 0} (frame : List (MadeFrame A) → DownFrame) (ps : List (Period A)) →
    map (λ f. f.place) (as_made frame (made_frames ps)) ≡ places_from 320 (shifts_of (made_frames ps))
made-places frame ps = places_are frame (made_frames ps) (AreInTurn-made_frames ps)
