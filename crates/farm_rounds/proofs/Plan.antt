-- For crates above: a planned round takes over whether an outgoing line has failed (`marks`).
-- A round that is planned: its calls are those of the farm.
use Rattle.std.proofs.Common.{◌≡◌, refl, sym, ap, ◌∙◌, subst, ℕ, ◌+◌, ◌*◌, ◌<◌, ◌≤◌, Bool, true, false, Some, List, [], ◌∷◌, length, get_or, arith}
use Rattle.std.specs.Prelude.{map, slice_index}
use Rattle.std.specs.Option.{option_map}
use Rattle.std.specs.List.{All}
use Rattle.std.proofs.lemmas.List.{get_or-map, length-map, length-replicate}
use Rattle.std.proofs.lemmas.Simd.{map-map}
use Rattle.std.proofs.lemmas.List.Elements.{All-map, All-weaker, All-get_or}
use Rattle.call_number.specs.CallNumber.{IsCallNumber}
use Rattle.round_lines.specs.Transfer.{has_failed}
use Rattle.round_lines.specs.Memory.{outlet_before}
use Rattle.round_lines.specs.Rounds.{no_portion, portion_at}
use Rattle.farm_rounds.specs.declared.open.OpenCall.{OpenCall}
use Rattle.farm_rounds.specs.Calls.{Kept, call_in}
use Rattle.farm_rounds.specs.Numbers.{IsRising}
use Rattle.farm_rounds.specs.Opens.{IsOpenCall, AreOpen, AreMutual, kept_of, portion_of_open, open_planned}
use Rattle.farm_rounds.specs.Opened.{no_open}
use Rattle.farm_rounds.specs.RoundHistories.{portion_for}
use Rattle.farm_rounds.specs.Working.{IsInRound, IsRound}
use Rattle.farm_rounds.proofs.Places.Found.{number_of, find_at, kept_by}
use Rattle.farm_rounds.proofs.Places.Rising.{rising_far}

-- ---- the numbers of open calls

number_at : (os : List OpenCall) (k : ℕ) → k < length os → get_or (map number_of os) k 0 ≡ (get_or os k no_open).job.io.call
number_at os k l = get_or-map number_of os k no_open 0 l

pub live_number : (most : ℕ) (live : List ℕ) (os : List OpenCall) → AreOpen most live os → (k : ℕ) →
    k < length live → IsCallNumber (slice_index live k)
live_number most live os a k l =
    let lk : k < length os = omega (arith, l, ap length a.listed, length-map os number_of) in
    subst IsCallNumber (sym (ap (λ (ns : List ℕ). get_or ns k 0) a.listed ∙ number_at os k lk))
    (All-get_or (IsOpenCall most) os k no_open lk a.each).number

-- no more calls are open than there are numbers
pub few_live : (most : ℕ) (live : List ℕ) (os : List OpenCall) → AreOpen most live os → length live ≤ 4096
few_live most [] os a = omega arith
few_live most (x ∷ xs) os a =
    let first = live_number most (x ∷ xs) os a 0 (omega arith) in
    let last = live_number most (x ∷ xs) os a (length xs) (omega arith) in
    let far = rising_far (x ∷ xs) (length xs) a.rising first.0 (omega arith) in
    omega (arith, far, last.1)

-- as many calls as numbers
pub live_long : (most : ℕ) (live : List ℕ) (os : List OpenCall) → AreOpen most live os → length live ≡ length os
live_long most live os a = ap length a.listed ∙ length-map os number_of

-- ---- a call

-- whether an outgoing line has failed stays known
pub marks : (b : Bool) → has_failed (outlet_before b) ≡ b
marks true = refl
marks false = refl

kept_planned : (n : ℕ) (o : OpenCall) → kept_of (open_planned n o) ≡ kept_of o
kept_planned n o =
    ap (λ (b : Bool). record {
      call = record {
        number = o.job.io.call;
        leg = (kept_of o).call.leg;
        down_failed = b;
        out_failed = has_failed
            (outlet_before (has_failed o.lines.out));
      };
      partner = o.partner;
    }) (marks (has_failed o.lines.down))
    ∙ ap (λ (b : Bool). record {
      call = record { number = o.job.io.call; leg = (kept_of o).call.leg; down_failed = has_failed o.lines.down; out_failed = b };
      partner = o.partner;
    }) (marks (has_failed o.lines.out))

planned_call : (before start n : ℕ) → before ≤ start → (o : OpenCall) → IsOpenCall before o → IsInRound start (start + n) (open_planned n o)
planned_call before start n later o h = record {
  call = record { number = h.number; lines = h.lines; worked = omega (arith, h.worked, later); first = refl; none = refl; up = h.down; down = h.down };
  periods = refl;
  given = refl;
  fresh = refl;
  alone = refl;
  bridge = refl;
  fits = record {
    up = length-replicate (40 * n) 0;
    pcm = length-replicate (160 * n) 0;
    down = length-replicate (40 * n) 0;
    out = length-replicate (160 * n) 0;
  };
}

-- ---- all calls

pub kept_all : (n : ℕ) (os : List OpenCall) → map kept_of (map (open_planned n) os) ≡ map kept_of os
kept_all n [] = refl
kept_all n (o ∷ os) =
    ap (λ (k : Kept). k ∷ map kept_of (map (open_planned n) os)) (kept_planned n o) ∙ ap (λ (ks : List Kept). kept_of o ∷ ks) (kept_all n os)

numbers_all : (n : ℕ) (os : List OpenCall) → map number_of (map (open_planned n) os) ≡ map number_of os
numbers_all n [] = refl
numbers_all n (o ∷ os) = ap (λ (ns : List ℕ). o.job.io.call ∷ ns) (numbers_all n os)

-- the calls of a planned round stand in rising order of their numbers
pub rising_kept : (n most : ℕ) (live : List ℕ) (os : List OpenCall) → AreOpen most live os →
    IsRising (map (λ k. k.call.number) (map kept_of (map (open_planned n) os)))
rising_kept n most live os a =
    subst IsRising (a.listed ∙ sym (numbers_all n os) ∙ sym (map-map (λ (k : Kept). k.call.number) kept_of (map (open_planned n) os))) a.rising

pub planned : (before start n : ℕ) (live : List ℕ) (os : List OpenCall) → before ≤ start → start + n ≤ 4294967295 → AreOpen before live os →
    IsRound start (start + n) live (map (open_planned n) os)
planned before start n live os later last a =
    let each : All (IsInRound start (start + n)) (map (open_planned n) os) = All-map (IsInRound start (start + n)) (open_planned n) os
    (All-weaker (IsOpenCall before) (λ o. IsInRound start (start + n) (open_planned n o)) (planned_call before start n later) os a.each) in
    record {
      opened = record {
        listed = a.listed ∙ sym (numbers_all n os);
        rising = a.rising;
        each = All-weaker (IsInRound start (start + n)) (IsOpenCall start) (λ o h. h.call) (map (open_planned n) os) each;
        both = subst AreMutual (sym (kept_all n os)) a.both;
      };
      each = each;
      last = last;
    }

-- the portion of each call
pub planned_portion : (before n : ℕ) (live : List ℕ) (os : List OpenCall) (k : ℕ) → AreOpen before live os → k < length live →
    let c = slice_index live k in portion_at (map portion_of_open (map (open_planned n) os)) k ≡ portion_for n c (call_in (map kept_of os) c)
planned_portion before n live os k a l =
    let lk : k < length os = omega (arith, l, live_long before live os a) in
    let lm : k < length (map (open_planned n) os) = omega (arith, lk, length-map os (open_planned n)) in
    let o = get_or os k no_open in
    let is : slice_index live k ≡ o.job.io.call = ap (λ (ns : List ℕ). get_or ns k 0) a.listed ∙ number_at os k lk in
    let found : call_in (map kept_of os) o.job.io.call ≡ Some (kept_of o).call =
    ap (λ x. option_map (λ (y : Kept). y.call) x) (kept_by os o.job.io.call)
    ∙ ap (λ x. option_map (λ (y : Kept). y.call) (option_map kept_of x)) (find_at os k (subst IsRising a.listed a.rising) lk) in
    let place : o.lines.call ≡ o.job.io.call = (All-get_or (IsOpenCall before) os k no_open lk a.each).lines in
    get_or-map portion_of_open (map (open_planned n) os) k no_open no_portion lm
    ∙ ap portion_of_open (get_or-map (open_planned n) os k no_open no_open lk)
    ∙ ap (λ (m : ℕ). portion_for n m (Some (kept_of o).call)) place
    ∙ ap (λ x. portion_for n o.job.io.call x) (sym found)
    ∙ ap (λ (m : ℕ). portion_for n m (call_in (map kept_of os) m)) (sym is)
