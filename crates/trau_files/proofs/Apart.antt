-- Which line has which file: nothing at first, and after one line has claimed one.
use Rattle.std.proofs.Common.{◌≡◌, ◌≢◌, ◌<◌, ◌∙◌, ℕ, List, length, Option, None, Some, All, slice_set}
use Rattle.std.proofs.Common.{arith, inl, inr, sym}
use Rattle.trau_files.specs.Claims.{AreApart, MayHave, MayShare, claim_at}
use Rattle.trau_files.specs.declared.trunk.claims.Claim.{Claim}
use Rattle.trau_files.proofs.BayLaws.{empty, set_place, within}

pub apart_of_none : (claims : List (Option Claim)) → All (λ claim. claim ≡ None) claims → AreApart claims
apart_of_none claims none i j a b at_i at_j other same = let e = empty claims none i in cc

-- none of the lines before the end has the file, so no line has
pub free_of_all : (claims : List (Option Claim)) (p : ℕ) (c : Claim) (n : ℕ) → length claims ≡ n →
    ((k : ℕ) (b : Claim) → k < n → claim_at claims k ≡ Some b → k ≢ p → MayShare c b) → MayHave claims p c
free_of_all claims p c n size before k b there elsewhere = before k b (omega (arith, within claims k b there, size)) there elsewhere

-- one line claims a file that it may have
pub apart_after : (claims : List (Option Claim)) (p : ℕ) (c : Claim) → AreApart claims → MayHave claims p c → AreApart (slice_set claims p (Some c))
apart_after claims p c apart free i j a b at_i at_j other =
    elim (set_place claims p (Some c) None i) [
      | inl s ↦ elim (set_place claims p (Some c) None j) [
        | inl t ↦ absurd (other (s.0 ∙ sym t.0))
        | inr t ↦
            let is : a ≡ c = cc in
            rw is (free j b (sym t ∙ at_j) (λ e. other (s.0 ∙ sym e)))
      ]
      | inr s ↦ elim (set_place claims p (Some c) None j) [
        | inl t ↦
            let is : b ≡ c = cc in
            rw is (λ same. let both = free i a (sym s ∙ at_i) (λ e. other (e ∙ sym t.0)) (sym same) in (both.1, both.0))
        | inr t ↦ apart i j a b (sym s ∙ at_i) (sym t ∙ at_j) other
      ]
    ]
