-- For crates above: the next block is whole or a part, so it counts as a block (`next_whole`, `blocks_whole`) or not
-- (`next_less`, `blocks_less`).
-- What outputs gain, one piece behind another.
use Rattle.std.proofs.Common.{◌≡◌, ◌⊎◌, inl, inr, ℕ, ◌<◌, ◌≤◌, List, [], ◌∷◌, ◌++◌, length, take, sym, ◌∙◌, subst}
use Rattle.std.proofs.Common.{append-nil, nat_lt}
use Rattle.std.proofs.KnownBytes.{Appends-trans}
use Rattle.std.proofs.lemmas.Bool.{cond-false, cond-true, le-ltb, lt-ltb}
use Rattle.std.specs.Io.KnownBytes.{Appends}
use Rattle.trau_io.specs.Lines.{Rose}
use Rattle.block_lines.specs.Machines.{Machine, blocks_with, with_next}
use Rattle.block_lines.specs.Runs.{All_of_it, None_of_it, Output, Part_of_it, Reaches, Stage}
use Rattle.block_lines.specs.Step.{Adds, Gains}

-- all that went out for the blocks, and then as much of the next as its stage says
module _ (o0 o1 o2 : Output) (before all : List ℕ) (so_far : Reaches All_of_it o0 o1 [] before) where
  behind : (part : List ℕ) → Appends o1.written o2.written part → Appends o0.written o2.written (before ++ part)
  behind part more = Appends-trans _ _ _ before part so_far.0 more

  reaches : (stage : Stage) (part : List ℕ) → Gains stage o1 o2 part → (all ≡ before ++ part) ⊎ (stage ≡ None_of_it) → Reaches stage o0 o2 before all
  reaches All_of_it part gains (inl is) = (subst (Appends o0.written o2.written) (sym is) (behind part gains.0), gains.1 ∙ so_far.1)
  reaches All_of_it part gains (inr none) = absurd (cc)
  reaches Part_of_it part gains (inl is) = (
    part,
    is,
    gains.0,
    gains.1,
    behind (take gains.0 part) gains.2,
    subst (λ m. m ≤ o2.faults) so_far.1 gains.3,
    subst (λ m. Rose m o2.faults) so_far.1 gains.4,
  )
  reaches Part_of_it part gains (inr none) = absurd (cc)
  reaches None_of_it part gains is = (subst (Appends o0.written o2.written) (append-nil before) (behind [] gains.0), gains.1 ∙ so_far.1)

  pub reaches_on : (stage : Stage) → Adds stage o1 o2 before all → Reaches stage o0 o2 before all
  reaches_on stage adds = reaches stage adds.0 adds.1 adds.2

-- the next is whole, or less
module _ (M : Machine) (next : List ℕ) where
  pub next_whole : (f : List (List ℕ) → List ℕ → List ℕ) (blocks : List (List ℕ)) → M.shape.octets ≤ length next →
      with_next M f blocks next ≡ f (blocks ++ next ∷ []) []
  next_whole f blocks whole = cond-false (nat_lt (length next) M.shape.octets) _ _ (le-ltb (length next) M.shape.octets whole)

  pub next_less : (f : List (List ℕ) → List ℕ → List ℕ) (blocks : List (List ℕ)) → length next < M.shape.octets → with_next M f blocks next ≡ f blocks next
  next_less f blocks less = cond-true (nat_lt (length next) M.shape.octets) _ _ (lt-ltb (length next) M.shape.octets less)

  pub blocks_whole : (blocks : List (List ℕ)) → M.shape.octets ≤ length next → blocks_with M blocks next ≡ blocks ++ next ∷ []
  blocks_whole blocks whole = cond-false (nat_lt (length next) M.shape.octets) _ _ (le-ltb (length next) M.shape.octets whole)

  pub blocks_less : (blocks : List (List ℕ)) → length next < M.shape.octets → blocks_with M blocks next ≡ blocks
  blocks_less blocks less = cond-true (nat_lt (length next) M.shape.octets) _ _ (lt-ltb (length next) M.shape.octets less)
