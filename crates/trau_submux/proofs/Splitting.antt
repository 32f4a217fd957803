-- A slot cut into its channels, as a block machine.
use Rattle.std.proofs.Common.{◌≡◌, inl, inr, ℕ, ◌+◌, ◌-◌, ◌*◌, ◌/◌, ◌≤◌, ◌<◌, List, [], ◌∷◌, ◌++◌, length, take, get_or, All, refl}
use Rattle.std.proofs.Common.{sym, ◌∙◌, ap, subst, arith, append-nil, length-append}
use Rattle.std.specs.List.{concat}
use Rattle.std.proofs.lemmas.Bool.{cases_lt}
use Rattle.std.proofs.lemmas.List.{take_all}
use Rattle.std.proofs.lemmas.List.Elements.{All-append, All-cons, All-nil}
use Rattle.block_lines.specs.Machines.{IsLawful, blocks_with, with_next}
use Rattle.block_lines.specs.Step.{Makes}
use Rattle.block_lines.proofs.Blocks.{concat_push, octets_in}
use Rattle.block_lines.proofs.Outputs.{blocks_less, blocks_whole, next_less, next_whole}
use Rattle.trau_submux.specs.Channels.{channel}
use Rattle.trau_submux.specs.Splits.{split_machine, whole_groups}
use Rattle.trau_submux.proofs.Channels.{length-channel}
use Rattle.trau_submux.proofs.Groups.{channel-append, front-channel, groups-append, groups-whole, length-groups}

pub split_lawful : IsLawful split_machine
split_lawful = record {
  some = omega arith;
  most = omega arith;
  few = omega arith;
  apart = λ e. cc;
  nothing_made = λ j. empty (channel j []) (length-channel j [] 0 refl);
  nothing_printed = refl;
  nothing_left = tt;
}
  where
    empty : (xs : List ℕ) → length xs ≡ 0 → xs ≡ []
    empty [] e = refl
    empty (x ∷ xs) e = absurd (omega (arith, e))

module _ (blocks : List (List ℕ)) (whole : All (λ block. length block ≡ 160) blocks) where
  octets : length (concat blocks) ≡ 4 * (40 * length blocks)
  octets = let count = octets_in 160 blocks whole in omega (arith, count)

  -- the channels of blocks and of what comes after them
  behind : (j : ℕ) (next : List ℕ) →
      channel j (whole_groups (concat blocks ++ next)) ≡ channel j (whole_groups (concat blocks ++ [])) ++ channel j (whole_groups next)
  behind j next = ap (channel j) (groups-append (concat blocks) next (40 * length blocks) octets)
      ∙ channel-append j (concat blocks) (whole_groups next) (40 * length blocks) octets
      ∙ ap (λ l. channel j l ++ channel j (whole_groups next))
      (sym (ap whole_groups (append-nil (concat blocks)) ∙ groups-whole (concat blocks) (40 * length blocks) octets))

  made_more : (j : ℕ) (next : List ℕ) → with_next split_machine (split_machine.made j) blocks next ≡ split_machine.made j blocks [] ++ channel j
      (whole_groups next)
  made_more j next = elim (cases_lt (length next) 160) [
    | inl less ↦ next_less split_machine next (split_machine.made j) blocks less ∙ behind j next
    | inr long ↦ next_whole split_machine next (split_machine.made j) blocks long
        ∙ ap (λ l. channel j (whole_groups l)) (append-nil (concat (blocks ++ next ∷ [])) ∙ concat_push blocks next) ∙ behind j next
  ]

  stands_more : (next : List ℕ) → length next ≤ 160 → All (λ block. length block ≡ 160) (blocks_with split_machine blocks next)
  stands_more next bound = elim (cases_lt (length next) 160) [
    | inl less ↦ subst (All (λ block. length block ≡ 160)) (sym (blocks_less split_machine next blocks less)) whole
    | inr long ↦ subst (All (λ block. length block ≡ 160)) (sym (blocks_whole split_machine next blocks long))
        (All-append (λ block. length block ≡ 160) blocks (next ∷ []) whole
        (All-cons (λ block. length block ≡ 160) next [] (omega (arith, bound, long)) (All-nil (λ block. length block ≡ 160))))
  ]

  -- how many octets are taken
  pub octets_taken : (rest : List ℕ) → length (whole_groups (concat blocks ++ rest)) ≡ 160 * length blocks + length rest / 4 * 4
  octets_taken rest = let count = octets_in 160 blocks whole in
      length-groups (concat blocks ++ rest) ∙ omega (arith, count, length-append (concat blocks) rest)

pub split_makes : (next : List ℕ) (subs : List (List ℕ)) → length next ≤ 160 → ((j : ℕ) → j < 4 → length (get_or subs j []) ≡ 40) →
    ((j : ℕ) → j < 4 → take (length next / 4) (get_or subs j []) ≡ channel j (whole_groups next)) →
    Makes split_machine (All (λ block. length block ≡ 160)) (All (λ block. length block ≡ 160)) next (λ j. get_or subs j []) [] (length next / 4)
split_makes next subs bound each parts = record {
  bound = λ j below. omega (arith, bound, each j below);
  is = elim (cases_lt (length next) 160) [
    | inl less ↦ inr (record { less = less; good = tt })
    | inr long ↦ inl (record { whole = omega (arith, bound, long); good = tt })
  ];
  stands = λ blocks whole. stands_more blocks whole next bound;
  made = λ blocks whole j below. made_more blocks whole j next ∙ ap (λ l. split_machine.made j blocks [] ++ l) (sym (parts j below));
  printed = λ blocks whole. elim (cases_lt (length next) 160) [
    | inl less ↦ next_less split_machine next split_machine.printed blocks less
    | inr long ↦ next_whole split_machine next split_machine.printed blocks long
  ];
}

-- the channels of what there is of a block
pub front_of_block : (j : ℕ) (slot block : List ℕ) → length slot ≡ 160 → length block ≤ 160 → take (length block) slot ≡ block →
    take (length block / 4) (channel j slot) ≡ channel j (whole_groups block)
front_of_block j slot block long bound is = front-channel j slot (length block) long bound ∙ ap (λ l. channel j (whole_groups l)) is

pub front_of_whole : (j : ℕ) (slot block : List ℕ) → length block ≡ 160 → slot ≡ block →
    take (length block / 4) (channel j slot) ≡ channel j (whole_groups block)
front_of_whole j slot block long same = front_of_block j slot block (ap length same ∙ long) (omega (arith, long))
    (take_all (length block) slot (omega (arith, ap length same)) ∙ same)
