-- What a read copies is what stands in the file from its octet on.
use Rattle.std.specs.Prelude.{◌≡◌, ℕ, ◌+◌, ◌-◌, ◌≤◌, min, List, [], ◌++◌, length, take, drop}
use Rattle.std.proofs.Common.{arith, ap, ap₂, sym, ◌∙◌, inl, inr, length-append, length-take-le, take_at, take-append-drop}
use Rattle.std.proofs.Math.ListN.{drop_of_length-le}
use Rattle.std.proofs.lemmas.Bool.{cases_lt}
use Rattle.std.proofs.lemmas.List.{drop-drop, length-drop, take_all}
use Rattle.trau_files.specs.Disk.{GivesOctets}

-- as many octets as there are and fit were copied, and the rest of the buffer stayed
pub read_octets : (octets copied buf : List ℕ) (at start count : ℕ) → start ≡ min at (length octets) → count ≡ min (length octets - start) (length buf) →
    copied ≡ take count (drop start octets) → GivesOctets (drop at octets) (drop (at + count) octets) count (copied ++ drop count buf)
read_octets octets copied buf at start count start_is count_is copied_is = elim (cases_lt (length octets) at) [
  | inl past ↦
      let none : count ≡ 0 = omega (arith, start_is, count_is, past) in
      let nothing : (n : ℕ) → length octets ≤ n → drop n octets ≡ [] = λ n. drop_of_length-le octets in (
        nothing at (omega (arith, past)) ∙ sym (ap₂ (λ (a b : List ℕ). a ++ b) (ap (λ n. take n (copied ++ drop count buf)) none) (nothing (at + count) (omega (arith, past)))),
        λ zero some. nothing (at + count) (omega (arith, past)),
      )
  | inr within ↦
      let here : start ≡ at = omega (arith, start_is, within) in
      let long : length copied ≡ count = ap length copied_is ∙ length-take-le count (drop start octets) (omega (arith, length-drop start octets, count_is)) in
      let rest : drop count (drop at octets) ≡ drop (at + count) octets = drop-drop count at octets in (
        sym (take-append-drop count (drop at octets))
            ∙ ap₂ (λ (a b : List ℕ). a ++ b) (ap (λ n. take count (drop n octets)) (sym here) ∙ sym copied_is ∙ sym (take_at copied (drop count buf) count long)) rest,
        λ zero some. drop_of_length-le octets (omega (arith, zero, some, count_is, here, within, long, length-append copied (drop count buf), length-drop count buf)),
      )
]

-- a part of the octets from `start` on is one of all that follow
pub whole_rest : (octets items copied : List ℕ) (start count : ℕ) → items ≡ octets → copied ≡ take count (take (length items - start) (drop start items)) →
    copied ≡ take count (drop start octets)
whole_rest octets items copied start count same is =
    is ∙ ap (take count) (take_all (length items - start) (drop start items) (omega (arith, length-drop start items))) ∙ ap (λ (xs : List ℕ). take count (drop start xs)) same
