-- A farm with no call.
use Rattle.std.proofs.Common.{◌≡◌, refl, sym, ap, ◌∙◌, subst, ℕ, Some, None, List, [], replicate, arith}
use Rattle.std.specs.Global.{Box}
use Rattle.std.proofs.lemmas.List.Elements.{All-nil}
use Rattle.trau_io.specs.declared.line.Line.{Line}
use Rattle.farm_rounds.specs.declared.open.OpenCall.{OpenCall}
use Rattle.farm_rounds.specs.declared.tally.Tally.{Tally}
use Rattle.farm_rounds.specs.Memory.{FarmMemory, no_tally, home_memory}
use Rattle.farm_rounds.specs.Histories.{CallsStand}
use Rattle.farm_rounds.specs.Opens.{opens_in, calls_of, IsOpenCall, AreOpen, AreMutual}

-- a farm of its parts
abbrev pub make_farm : List (Box OpenCall) → List ℕ → List Tally → List Line → ℕ → FarmMemory
make_farm bs live kept failed ended = record { calls = calls_of bs; live = live; tallies = kept; failed = failed; ended = ended }

pub farm_new : (bs : List (Box OpenCall)) (live : List ℕ) (kept : List Tally) (failed : List Line) →
    bs ≡ [] → live ≡ [] → kept ≡ replicate 4097 no_tally → failed ≡ [] → make_farm bs live kept failed 0 ≡ home_memory
farm_new bs live kept failed eb el ek ef =
    ap (λ (x : List (Box OpenCall)). make_farm x live kept failed 0) eb ∙ ap (λ (x : List ℕ). make_farm [] x kept failed 0) el
    ∙ ap (λ (x : List Tally). make_farm [] [] x failed 0) ek ∙ ap (λ (x : List Line). make_farm [] [] (replicate 4097 no_tally) x 0) ef

none_mutual : AreMutual []
none_mutual c d e = absurd (none_some e)
  where
    none_some : {x : ℕ} → None ≡ Some x → ⊥
    none_some e = cc

pub none_open : (live : List ℕ) (bs : List (Box OpenCall)) → live ≡ [] → bs ≡ [] → AreOpen 0 live (opens_in bs)
none_open live bs el eb =
    subst (λ (xs : List ℕ). AreOpen 0 xs (opens_in bs)) (sym el)
    (subst (λ (xs : List (Box OpenCall)). AreOpen 0 [] (opens_in xs)) (sym eb)
    (record { listed = refl; rising = λ i j l lj. absurd (omega (arith, lj)); each = All-nil (IsOpenCall 0); both = none_mutual }))

-- no call stands for no history
pub none_stand : (bs : List (Box OpenCall)) → bs ≡ [] → CallsStand (λ c. None) (calls_of bs)
none_stand bs e = subst (λ (xs : List (Box OpenCall)). CallsStand (λ c. None) (calls_of xs)) (sym e) (λ c. refl)
