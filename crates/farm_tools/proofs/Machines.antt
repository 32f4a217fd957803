-- The tools as block machines: they print nothing before their last line, and write one line.
use Rattle.std.proofs.Common.{◌≡◌, inl, ℕ, List, [], ◌∷◌, ◌++◌, length, take, refl, sym, ◌∙◌, ap, subst, arith}
use Rattle.std.proofs.lemmas.List.{take_all}
use Rattle.block_lines.specs.Machines.{IsBlock, IsLawful, Machine, with_next}
use Rattle.block_lines.specs.Step.{Makes}
use Rattle.block_lines.proofs.Outputs.{blocks_whole, next_whole}
use Rattle.farm_tools.specs.Machines.{decode_machine, encode_machine, relay_machine}
use Rattle.farm_tools.proofs.Making.{decode_nothing, encode_nothing}

pub relay_lawful : IsLawful relay_machine
relay_lawful = record {
  some = omega arith;
  most = omega arith;
  few = omega arith;
  apart = λ e. cc;
  nothing_made = λ j. refl;
  nothing_printed = refl;
  nothing_left = refl;
}

pub decode_lawful : IsLawful decode_machine
decode_lawful = record {
  some = omega arith;
  most = omega arith;
  few = omega arith;
  apart = λ e. cc;
  nothing_made = decode_nothing;
  nothing_printed = refl;
  nothing_left = refl;
}

pub encode_lawful : IsLawful encode_machine
encode_lawful = record {
  some = omega arith;
  most = omega arith;
  few = omega arith;
  apart = λ e. cc;
  nothing_made = encode_nothing;
  nothing_printed = refl;
  nothing_left = tt;
}

-- a block of no octets
pub empty : (xs : List ℕ) → length xs ≡ 0 → xs ≡ []
empty [] e = refl
empty (x ∷ xs) e = absurd (omega (arith, e))

-- the line gains what is made of a block
pub one_line : (M : Machine) (before after : List (List ℕ) → Type 0) (next octets : List ℕ) (count : ℕ) →
    ((blocks : List (List ℕ)) (rest : List ℕ) → M.printed blocks rest ≡ []) → M.shape.lines ≡ 1 → length octets ≡ count → IsBlock M next →
    ((blocks : List (List ℕ)) → before blocks → after (blocks ++ next ∷ [])) →
    ((blocks : List (List ℕ)) → before blocks → M.made 0 (blocks ++ next ∷ []) [] ≡ M.made 0 blocks [] ++ octets) →
    Makes M before after next (λ j. octets) [] count
one_line M before after next octets count silent one long block stands more = record {
  bound = λ j below. omega (arith, long);
  is = inl block;
  stands = λ blocks now. subst after (sym (blocks_whole M next blocks (omega (arith, block.whole)))) (stands blocks now);
  made = λ blocks now j below. let zero : 0 ≡ j = omega (arith, below, one) in
      subst (λ i. with_next M (M.made i) blocks next ≡ M.made i blocks [] ++ take count octets) zero
      (next_whole M next (M.made 0) blocks (omega (arith, block.whole)) ∙ more blocks now
      ∙ ap (λ l. M.made 0 blocks [] ++ l) (sym (take_all count octets (omega (arith, long)))));
  printed = λ blocks now.
      next_whole M next M.printed blocks (omega (arith, block.whole)) ∙ silent _ [] ∙ ap (λ l. l ++ []) (sym (silent blocks []));
}
