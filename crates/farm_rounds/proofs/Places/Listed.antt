-- The calls of a round, one after the other: their numbers and their portions.
use Rattle.std.proofs.Common.{◌≡◌, refl, ap, ◌∙◌, ℕ, zero, suc, ◌<◌, List, [], ◌∷◌, length, map, get_or, slice_index, arith}
use Rattle.std.specs.Global.{Box}
use Rattle.round_lines.specs.Portions.{PortionMemory}
use Rattle.farm_rounds.specs.declared.open.OpenCall.{OpenCall}
use Rattle.farm_rounds.specs.Opens.{opens_in, portions_of, portion_of_open}
use Rattle.farm_rounds.specs.Opened.{open_at}

-- the portion of the call that a loop looks at
portion_got : (bs : List (Box OpenCall)) (k : ℕ) (b : Box OpenCall) (s : PortionMemory) → k < length bs →
    portion_of_open (get_or bs k b).value ≡ get_or (portions_of bs) k s
portion_got [] k b s l = absurd (omega arith)
portion_got (x ∷ bs) zero b s l = refl
portion_got (x ∷ bs) (suc k) b s l = portion_got bs k b s (omega arith)

pub portion_listed : (bs : List (Box OpenCall)) (k : ℕ) (b : Box OpenCall) (s : PortionMemory) → k < length bs → b ≡ get_or bs k b →
    portion_of_open b.value ≡ get_or (portions_of bs) k s
portion_listed bs k b s l e = ap (λ (x : Box OpenCall). portion_of_open x.value) e ∙ portion_got bs k b s l

abbrev pub numbers_of : List (Box OpenCall) → List ℕ
numbers_of bs = map (λ (o : OpenCall). o.job.io.call) (opens_in bs)

pub number_read : (bs : List (Box OpenCall)) (k : ℕ) → k < length bs → slice_index (numbers_of bs) k ≡ (open_at bs k).job.io.call
number_read [] k l = absurd (omega arith)
number_read (x ∷ bs) zero l = refl
number_read (x ∷ bs) (suc k) l = number_read bs k (omega arith)

pub numbers_long : (bs : List (Box OpenCall)) → length (numbers_of bs) ≡ length bs
numbers_long [] = refl
numbers_long (x ∷ bs) = let e = numbers_long bs in omega (arith, e)
