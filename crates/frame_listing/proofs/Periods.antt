-- The listing, one period after another.
use Rattle.std.proofs.Common.{◌≡◌, inl, ℕ, ◌+◌, ◌-◌, ◌^◌, ◌<◌, ◌≤◌, List, [], ◌∷◌, ◌++◌, length, reverse, Option, refl, sym, ◌∙◌, ap, subst, arith}
use Rattle.std.proofs.Common.{append-nil, length-append}
use Rattle.std.specs.Prelude.{option_to_list}
use Rattle.std.specs.List.{flat_map}
use Rattle.std.proofs.lemmas.Grind.{flat_map-append}
use Rattle.std.proofs.lemmas.List.{length-reverse, reverse-append}
use Rattle.frame_sync.specs.declared.yields.Yield.{Yield}
use Rattle.frame_sync.specs.Periods.{all_yields, each_yield, yield_of}
use Rattle.frame_sync.specs.Memory.{SyncMemory}
use Rattle.frame_sync.specs.Stands.{Stands}
use Rattle.block_lines.specs.Machines.{IsLawful}
use Rattle.block_lines.specs.Step.{HasRoom, Makes}
use Rattle.block_lines.proofs.Outputs.{blocks_whole, next_whole}
use Rattle.frame_listing.specs.Machine.{Lists, frames_machine}
use Rattle.frame_listing.specs.Texts.{line_of, listed}

-- nothing of no periods
listed_nothing : listed [] ≡ []
unfolding each_yield
listed_nothing = refl

pub no_yields : 0 ≡ length (all_yields [])
unfolding each_yield
no_yields = refl

pub frames_lawful : IsLawful frames_machine
frames_lawful = record {
  some = omega arith;
  most = omega arith;
  few = omega arith;
  apart = λ e. cc;
  nothing_made = λ j. refl;
  nothing_printed = listed_nothing;
  nothing_left = tt;
}

-- the yields of one period more
yields_more : (periods : List (List ℕ)) (given : List ℕ) →
    all_yields (periods ++ given ∷ []) ≡ all_yields periods ++ option_to_list (yield_of given (reverse periods))
unfolding each_yield
yields_more periods given =
    ap (λ past. flat_map option_to_list (each_yield past)) (reverse-append periods (given ∷ []))
    ∙ flat_map-append option_to_list (each_yield (reverse periods)) (yield_of given (reverse periods) ∷ [])
    ∙ ap (λ l. all_yields periods ++ l) (append-nil (option_to_list (yield_of given (reverse periods))))

-- and their lines
listed_more : (periods : List (List ℕ)) (given : List ℕ) →
    listed (periods ++ given ∷ []) ≡ listed periods ++ flat_map line_of (option_to_list (yield_of given (reverse periods)))
listed_more periods given = ap (flat_map line_of) (yields_more periods given)
    ∙ flat_map-append line_of (all_yields periods) (option_to_list (yield_of given (reverse periods)))

-- the search has room for one period more, and the count for its yield
pub room_for_period : (sync : SyncMemory) (yields : ℕ) → HasRoom (Lists sync yields) → sync.periods < 2 ^ 32 - 1
room_for_period sync yields room =
    let number = ap (λ (m : SyncMemory). m.periods) room.now.search.after ∙ length-reverse room.blocks in
    omega (arith, number, room.fewer)

pub room_for_yield : (sync : SyncMemory) (yields : ℕ) → HasRoom (Lists sync yields) → yields < 2 ^ 32 - 1
room_for_yield sync yields room = omega (arith, room.now.at_most, room.fewer)

module _ (sync sync' : SyncMemory) (yields yields' more : ℕ) (sum : yields' ≡ yields + more) (next : List ℕ) (holds : ℕ → List ℕ) (text : List ℕ) (found : Option Yield)
    (history : (past : List (List ℕ)) → Stands past sync → Stands (next ∷ past) sync' × (found ≡ yield_of next past))
    (number : more ≡ length (option_to_list found)) (few : more ≤ 1) where
  -- one period more was searched
  lists_more : (periods : List (List ℕ)) → Lists sync yields periods → Lists sync' yields' (periods ++ next ∷ [])
  lists_more periods now =
      let one = history (reverse periods) now.search in
      let all = ap length (yields_more periods next ∙ ap (λ f. all_yields periods ++ option_to_list f) (sym one.1))
      ∙ length-append (all_yields periods) (option_to_list found) in
      record {
        search = subst (λ past. Stands past sync') (sym (reverse-append periods (next ∷ []))) one.0;
        yields_are = omega (arith, sum, now.yields_are, number, all);
        at_most = omega (arith, sum, now.at_most, few, length-append periods (next ∷ []));
      }

  -- and its yield, if it has one, was listed
  pub one_period : length next ≡ 40 → text ≡ flat_map line_of (option_to_list found) →
      Makes frames_machine (Lists sync yields) (Lists sync' yields') next holds text 0
  one_period whole is = record {
    bound = λ j below. absurd (omega (arith, below));
    is = inl (record { whole = whole; good = tt });
    stands = λ periods now. subst (Lists sync' yields') (sym (blocks_whole frames_machine next periods (omega (arith, whole))))
        (lists_more periods now);
    made = λ periods now j below. absurd (omega (arith, below));
    printed = λ periods now. next_whole frames_machine next frames_machine.printed periods (omega (arith, whole)) ∙ listed_more periods next
        ∙ ap (λ f. listed periods ++ flat_map line_of (option_to_list f)) (sym (history (reverse periods) now.search).1)
        ∙ ap (λ l. listed periods ++ l) (sym is);
  }
