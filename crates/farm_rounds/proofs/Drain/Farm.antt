-- The farm after a round: which calls go on, found by their numbers.
use Rattle.std.proofs.Common.{◌≡◌, ◌≢◌, refl, sym, ap, ◌∙◌, subst, ℕ, Bool, true, false, Option, Some, None, is_some, List, map, inl, inr}
use Rattle.std.specs.Prelude.{◌==◌, ◌&&◌, if◌then◌else◌, filter, unwrap_or}
use Rattle.std.specs.Option.{option_map, option_and_then}
use Rattle.std.specs.List.{All}
use Rattle.std.proofs.lemmas.Bool.{cases_Bool}
use Rattle.std.proofs.lemmas.List.Elements.{All-filter, All-map, filter_passes}
use Rattle.std.proofs.lemmas.Simd.{map-map}
use Rattle.std.proofs.lemmas.Map.Entries.{option_filter}
use Rattle.trau_io.specs.declared.line.Line.{Line}
use Rattle.trau_io.specs.declared.ends.CallEnd.{CallEnd}
use Rattle.round_lines.specs.Transfer.{has_failed}
use Rattle.round_lines.specs.Portions.{PortionMemory}
use Rattle.round_lines.specs.Rounds.{no_portion}
use Rattle.farm_rounds.specs.declared.open.OpenCall.{OpenCall}
use Rattle.farm_rounds.specs.declared.tally.Tally.{Tally}
use Rattle.farm_rounds.specs.Calls.{Call, Kept, kept_in, call_in, partner_in}
use Rattle.farm_rounds.specs.Numbers.{IsRising, is_among}
use Rattle.farm_rounds.specs.Memory.{FarmMemory, tally_in}
use Rattle.farm_rounds.specs.Opens.{kept_of, portion_of_open, goes_on_open, open_rested, still_among, IsOpenCall, AreOpen}
use Rattle.farm_rounds.specs.Opened.{TallyAfter, TallyKept, that_ends}
use Rattle.farm_rounds.specs.Histories as had
use Rattle.farm_rounds.specs.Histories.{CallHistory, whose, CallStands, CallsStand}
use Rattle.farm_rounds.specs.Settling.{goes_on_in}
use Rattle.farm_rounds.specs.Working.{WorkedMemory, IsWorkedCall, IsWorkedRound, StaysBridged, goes_on_call, that_stays, partner_past}
use Rattle.farm_rounds.specs.RoundHistories.{portion_of, WorkedCall, KnowFailed, IsPassed, those_that}
use Rattle.farm_rounds.proofs.Places.Found.{number_of, open_in, kept_by}
use Rattle.farm_rounds.proofs.Places.Numbered.{found, found_map, any_map, map_same, Rise, rise, rising_filter, found_filter, any_found, among_found, found_same}

abbrev place : OpenCall → ℕ
place o = o.lines.call

-- a call that is found, where it goes on
abbrev going : Option OpenCall → Option OpenCall
going o = option_filter goes_on_open o

-- ---- a call, by whether it goes on

abbrev seen : Option OpenCall → Option Kept
seen o = option_map kept_of o

abbrev after : List ℕ → Option OpenCall → Option Kept
after live o = option_map (λ (x : OpenCall). kept_of (open_rested live x)) (going o)

abbrev pub call_of : Option Kept → Option Call
call_of k = option_map (λ (k : Kept). k.call) k

abbrev pub partner_of : Option Kept → Option ℕ
partner_of k = option_and_then (λ (k : Kept). k.partner) k

there : (o : Option OpenCall) → is_some (going o) ≡ (is_some o && is_some (going o))
there None = refl
there (Some x) = refl

seen_there : (live : List ℕ) (o : Option OpenCall) → is_some (call_of (after live o)) ≡ is_some (going o)
seen_there live None = refl
seen_there live (Some x) = elim (cases_Bool (goes_on_open x)) [ inl t ↦ simp t refl | inr f ↦ simp f refl ]

module _ (live : List ℕ) (stays : ℕ → Bool) (same : (c : ℕ) → is_among live c ≡ stays c) where
  still : (p : Option ℕ) → still_among live p ≡ that_stays stays p
  still None = refl
  still (Some d) = ap (λ (b : Bool). if b then Some d else None) (same d)

  partner_left : (o : Option OpenCall) (b : Bool) → b ≡ is_some (going o) →
      partner_of (after live o) ≡ (if b then that_stays stays (partner_of (seen o)) else None)
  partner_left None b e = ap (λ (b : Bool). if b then None else None) (sym e)
  partner_left (Some x) b e = elim (cases_Bool (goes_on_open x)) [
    | inl t ↦ let u : b ≡ true = simp t at e in simp (t, u) (still x.partner)
    | inr f ↦ let u : b ≡ false = simp f at e in simp (f, u) refl
  ]

  stands_left : (c : ℕ) (h : Option CallHistory) (o : Option OpenCall) →
      stays c ≡ is_some (going o) → WorkedCall stays c h (call_of (seen o)) (partner_of (seen o)) →
      CallStands c (if stays c then h else None) (call_of (after live o)) (if stays c then that_stays stays (partner_of (seen o)) else None)
  stands_left c None None e w = let f : stays c ≡ false = e in simp f refl
  stands_left c None (Some x) e w = absurd w
  stands_left c (Some t) None e w = absurd w
  stands_left c (Some t) (Some x) e w = elim (cases_Bool (goes_on_open x)) [
    | inl u ↦ let v : stays c ≡ true = simp u at e in simp (u, v) (w.0, w.1, w.2 v)
    | inr f ↦ let v : stays c ≡ false = simp f at e in simp (f, v) refl
  ]

-- what its portion tells of its lines
knows : (live : List ℕ) (o : Option OpenCall) (x : Call) → call_of (after live o) ≡ Some x →
    let s = unwrap_or (option_map portion_of_open o) no_portion in
    (x.down_failed ≡ has_failed s.lines.down) × (x.out_failed ≡ has_failed s.lines.out)
knows live None x e = absurd (cc)
knows live (Some y) x e = elim (cases_Bool (goes_on_open y)) [
  | inl t ↦
      let same : (kept_of (open_rested live y)).call ≡ x = let h = simp t at e in cc in
      (sym (ap (λ (z : Call). z.down_failed) same), sym (ap (λ (z : Call). z.out_failed) same))
  | inr f ↦ absurd (let h = simp f at e in cc)
]

-- a call that is open after the round was so in it, and its lines gave all periods
pub record IsLeft (live : List ℕ) (opens : List OpenCall) (c : ℕ) (x : Call) : Type 0 where
  pub was : OpenCall
  pub there : open_in opens c ≡ Some was
  pub goes : goes_on_open was ≡ true
  pub same : (kept_of (open_rested live was)).call ≡ x

is_left : (live : List ℕ) (opens : List OpenCall) (c : ℕ) (o : Option OpenCall) (x : Call) → open_in opens c ≡ o → call_of (after live o) ≡ Some x →
    IsLeft live opens c x
is_left live opens c None x q e = absurd (cc)
is_left live opens c (Some y) x q e = elim (cases_Bool (goes_on_open y)) [
  | inl t ↦
      let same : (kept_of (open_rested live y)).call ≡ x = let h = simp t at e in cc in
      record { was = y; there = q; goes = t; same = same }
  | inr f ↦ absurd (let h = simp f at e in cc)
]

-- of one that ends the counts are kept
counts_left : (stays : ℕ → Bool) (c : ℕ) (h : Option CallHistory) (o : Option OpenCall) (p : Option ℕ) (a b : Tally) → stays c ≡ is_some (going o) →
    WorkedCall stays c h (call_of (seen o)) p → TallyAfter (that_ends o) a b → b ≡ (if stays c then a else had.kept_of h a)
counts_left stays c None None p a b e w k = let f : stays c ≡ false = e in simp f k
counts_left stays c None (Some x) p a b e w k = absurd w
counts_left stays c (Some t) None p a b e w k = absurd w
counts_left stays c (Some t) (Some x) p a b e w k = elim (cases_Bool (goes_on_open x)) [
  | inl u ↦ let v : stays c ≡ true = simp u at e in simp v (simp u at k)
  | inr f ↦ let v : stays c ≡ false = simp f at e in simp v ((simp f at k) (whose c t) t.periods t.now w.1)
]

-- ---- partners

-- partners that both go on are each other's still
still_mutual : (stays : ℕ → Bool) (p : ℕ → Option ℕ) → ((c d : ℕ) → p c ≡ Some d → (p d ≡ Some c) × (c ≢ d)) → (c d : ℕ) →
    partner_past stays p c ≡ Some d → (partner_past stays p d ≡ Some c) × (c ≢ d)
still_mutual stays p both c d e = elim (cases_Bool (stays c)) [
  | inl t ↦ by (p c) refl (simp t at e) t
  | inr f ↦ absurd (let h = simp f at e in cc)
]
  where
    by : (o : Option ℕ) → p c ≡ o → that_stays stays o ≡ Some d → stays c ≡ true → (partner_past stays p d ≡ Some c) × (c ≢ d)
    by None q u t = absurd (cc)
    by (Some a) q u t = elim (cases_Bool (stays a)) [
      | inl v ↦
          let same : a ≡ d = let h = simp v at u in cc in
          let goes : stays d ≡ true = ap stays (sym same) ∙ v in
          let m = both c d (q ∙ ap Some same) in
          (simp goes (ap (that_stays stays) m.0 ∙ ap (λ (b : Bool). if b then Some c else None) t), m.1)
      | inr f ↦ absurd (let h = simp f at u in cc)
    ]

-- ---- all calls

-- the calls that go on, at rest
abbrev pub left_open : List ℕ → List OpenCall → List OpenCall
left_open live opens = map (open_rested live) (filter goes_on_open opens)

abbrev pub numbers_left : List OpenCall → List ℕ
numbers_left opens = map place (filter goes_on_open opens)

module _ (most : ℕ) (live : List ℕ) (opens : List OpenCall) (w : IsWorkedRound most live opens) where
  abbrev rest : List ℕ
  rest = numbers_left opens

  abbrev portions : List PortionMemory
  portions = map portion_of_open opens

  abbrev now : List Kept
  now = map kept_of (left_open rest opens)

  pub risen : Rise number_of opens
  risen = rise number_of opens (subst IsRising w.listed w.rising)

  pub own : All (λ o. place o ≡ number_of o) opens
  own k d l = (w.each k d l).lines

  placed : Rise place opens
  placed = rise place opens (subst IsRising (sym (map_same place number_of opens own)) (subst IsRising w.listed w.rising))

  by_place : (c : ℕ) → found place opens c ≡ open_in opens c
  by_place c = found_same number_of place opens c own

  stays_is : (c : ℕ) → goes_on_call portions c ≡ is_some (going (open_in opens c))
  stays_is c =
      any_map (λ (s : PortionMemory). (s.lines.call == c) && goes_on_in s) portion_of_open opens ∙ any_found place goes_on_open opens c placed
      ∙ ap (λ (o : Option OpenCall). is_some (going o)) (by_place c)

  live_is : (c : ℕ) → is_among live c ≡ is_some (open_in opens c)
  live_is c = ap (λ (ns : List ℕ). is_among ns c) w.listed ∙ among_found number_of opens c

  rest_is : (c : ℕ) → is_among rest c ≡ is_some (going (open_in opens c))
  rest_is c =
      among_found place (filter goes_on_open opens) c
      ∙ ap (λ (o : Option OpenCall). is_some o) (found_filter place goes_on_open opens c placed ∙ ap going (by_place c))

  rest_stays : (c : ℕ) → is_among rest c ≡ goes_on_call portions c
  rest_stays c = rest_is c ∙ sym (stays_is c)

  now_is : (c : ℕ) → kept_in now c ≡ after rest (open_in opens c)
  now_is c =
      kept_by (left_open rest opens) c
      ∙ ap seen (found_map (λ (o : OpenCall). number_of o == c) (open_rested rest) (filter goes_on_open opens) ∙ ap (option_map (open_rested rest)) (found_filter number_of goes_on_open opens c risen))
      ∙ twice (going (open_in opens c))
    where
      twice : (o : Option OpenCall) → seen (option_map (open_rested rest) o) ≡ option_map (λ (x : OpenCall). kept_of (open_rested rest x)) o
      twice None = refl
      twice (Some x) = refl

  portion_is : (c : ℕ) → portion_of portions c ≡ unwrap_or (option_map portion_of_open (open_in opens c)) no_portion
  portion_is c =
      ap (λ (s : Option PortionMemory). unwrap_or s no_portion)
      (found_map (λ (s : PortionMemory). s.lines.call == c) portion_of_open opens ∙ ap (option_map portion_of_open) (by_place c))

  live_left : (c : ℕ) → is_among rest c ≡ (is_among live c && goes_on_call portions c)
  live_left c =
      rest_is c ∙ there (open_in opens c) ∙ ap (λ (b : Bool). b && is_some (going (open_in opens c))) (sym (live_is c))
      ∙ ap (λ (b : Bool). is_among live c && b) (sym (stays_is c))

  open_left : (c : ℕ) → is_some (call_in now c) ≡ is_among rest c
  open_left c = ap (λ (k : Option Kept). is_some (call_of k)) (now_is c) ∙ seen_there rest (open_in opens c) ∙ sym (rest_is c)

  partners_left : (c : ℕ) → partner_in now c ≡ partner_past (goes_on_call portions) (partner_in (map kept_of opens)) c
  partners_left c =
      ap partner_of (now_is c) ∙ partner_left rest (goes_on_call portions) rest_stays (open_in opens c) (goes_on_call portions c) (stays_is c)
      ∙ ap (λ (k : Option Kept). if goes_on_call portions c then that_stays (goes_on_call portions) (partner_of k) else None) (sym (kept_by opens c))

  failed_known : KnowFailed portions now
  failed_known c x e =
      subst (λ (s : PortionMemory). (x.down_failed ≡ has_failed s.lines.down) × (x.out_failed ≡ has_failed s.lines.out)) (sym (portion_is c))
      (knows rest (open_in opens c) x (sym (ap call_of (now_is c)) ∙ e))

  -- a call that is open behind the round
  pub left_is : (c : ℕ) (x : Call) → call_in now c ≡ Some x → IsLeft rest opens c x
  left_is c x e = is_left rest opens c (open_in opens c) x refl (sym (ap call_of (now_is c)) ∙ e)

  -- a call that was worked stands for its periods
  worked_at : (h : Option CallHistory) (c : ℕ) →
      WorkedCall (goes_on_call portions) c h (call_in (map kept_of opens) c) (partner_in (map kept_of opens) c) →
      WorkedCall (goes_on_call portions) c h (call_of (seen (open_in opens c))) (partner_of (seen (open_in opens c)))
  worked_at h c k = subst (λ (x : Option Kept). WorkedCall (goes_on_call portions) c h (call_of x) (partner_of x)) (kept_by opens c) k

  history_left : (h : ℕ → Option CallHistory) →
      ((c : ℕ) → WorkedCall (goes_on_call portions) c (h c) (call_in (map kept_of opens) c) (partner_in (map kept_of opens) c)) →
      CallsStand (those_that (goes_on_call portions) h) now
  history_left h k c =
      subst (λ (x : Option Kept). CallStands c (those_that (goes_on_call portions) h c) (call_of x) (partner_in now c)) (sym (now_is c))
      (subst (λ (p : Option ℕ). CallStands c (those_that (goes_on_call portions) h c) (call_of (after rest (open_in opens c))) p)
      (sym (ap partner_of (now_is c) ∙ partner_left rest (goes_on_call portions) rest_stays (open_in opens c) (goes_on_call portions c) (stays_is c)))
      (stands_left rest (goes_on_call portions) rest_stays c (h c) (open_in opens c) (stays_is c) (worked_at (h c) c (k c))))

  tallies_left : (h : ℕ → Option CallHistory) (kept keeps : List Tally) →
      ((c : ℕ) → WorkedCall (goes_on_call portions) c (h c) (call_in (map kept_of opens) c) (partner_in (map kept_of opens) c)) →
      ((c : ℕ) → TallyKept opens c (tally_in kept c) (tally_in keeps c)) → (c : ℕ) →
      tally_in keeps c ≡ (if goes_on_call portions c then tally_in kept c else had.kept_of (h c) (tally_in kept c))
  tallies_left h kept keeps k keep c =
      counts_left (goes_on_call portions) c (h c) (open_in opens c) (partner_of (seen (open_in opens c))) (tally_in kept c) (tally_in keeps c) (stays_is c)
      (worked_at (h c) c (k c)) (keep c)

  -- the farm that is left
  still_open : AreOpen most rest (left_open rest opens)
  still_open = record {
    listed =
        map_same place number_of (filter goes_on_open opens) (All-filter goes_on_open (λ o. place o ≡ number_of o) opens own)
        ∙ sym (twice (filter goes_on_open opens));
    rising = rising_filter place goes_on_open opens placed;
    each =
        All-map (IsOpenCall most) (open_rested rest) (filter goes_on_open opens)
        (λ k d l. rested _ (All-filter goes_on_open (IsWorkedCall most) opens w.each k d l)
        (All-filter goes_on_open (StaysBridged (goes_on_call portions)) opens w.bridged k d l (filter_passes goes_on_open opens k d l)));
    both =
        λ c d e. let m = still_mutual (goes_on_call portions) (partner_in (map kept_of opens)) w.both c d (sym (partners_left c) ∙ e) in
        (partners_left d ∙ m.0, m.1);
  }
    where
      twice : (xs : List OpenCall) → map number_of (map (open_rested rest) xs) ≡ map number_of xs
      twice xs = map-map number_of (open_rested rest) xs

      rested : (o : OpenCall) → IsWorkedCall most o → o.job.down.bridged ≡ is_some (that_stays (goes_on_call portions) o.partner) →
          IsOpenCall most (open_rested rest o)
      rested o k e =
          let flag = e ∙ sym (ap (λ (p : Option ℕ). is_some p) (still rest (goes_on_call portions) rest_stays o.partner)) in
          record { number = k.number; lines = k.lines; worked = k.worked; first = refl; none = refl; up = flag; down = flag }

-- ---- the farm after a round

-- what is seen of a farm, or of the calls in a round
abbrev farm_with : List OpenCall → List ℕ → List Tally → List Line → ℕ → FarmMemory
farm_with opens live keeps failed ended = record { calls = map kept_of opens; live = live; tallies = keeps; failed = failed; ended = ended }

pub passed : (most : ℕ) (live : List ℕ) (opens : List OpenCall) (kept keeps : List Tally) (failed now : List Line) (ends : List CallEnd)
    (numbers : List ℕ) (left : List OpenCall) → IsWorkedRound most live opens → numbers ≡ numbers_left opens → left ≡ left_open numbers opens →
    ((c : ℕ) → TallyKept opens c (tally_in kept c) (tally_in keeps c)) →
    IsPassed (record { farm = farm_with opens live kept failed most; portions = map portion_of_open opens; ends = ends }) (farm_with left numbers keeps now most)
passed most live opens kept keeps failed now ends numbers left w en el keep =
    let r : WorkedMemory = record { farm = farm_with opens live kept failed most; portions = map portion_of_open opens; ends = ends } in
    subst (λ (os : List OpenCall). IsPassed r (farm_with os numbers keeps now most)) (sym el)
    (subst (λ (ns : List ℕ). IsPassed r (farm_with (left_open ns opens) ns keeps now most)) (sym en)
    (record {
      ended = refl;
      live = live_left most live opens w;
      is_open = open_left most live opens w;
      partners = partners_left most live opens w;
      history = history_left most live opens w;
      tallies = λ h k. tallies_left most live opens w h kept keeps k keep;
    }))

-- Its calls know which of their lines have failed.
pub knowing : (most : ℕ) (live : List ℕ) (opens : List OpenCall) (numbers : List ℕ) (left : List OpenCall) → IsWorkedRound most live opens →
    numbers ≡ numbers_left opens → left ≡ left_open numbers opens → KnowFailed (map portion_of_open opens) (map kept_of left)
knowing most live opens numbers left w en el =
    subst (λ (os : List OpenCall). KnowFailed (map portion_of_open opens) (map kept_of os)) (sym el)
    (subst (λ (ns : List ℕ). KnowFailed (map portion_of_open opens) (map kept_of (left_open ns opens))) (sym en) (failed_known most live opens w))

-- Its invariant holds.
pub still_left : (most : ℕ) (live : List ℕ) (opens : List OpenCall) (numbers : List ℕ) (left : List OpenCall) → IsWorkedRound most live opens →
    numbers ≡ numbers_left opens → left ≡ left_open numbers opens → AreOpen most numbers left
still_left most live opens numbers left w en el =
    subst (λ (os : List OpenCall). AreOpen most numbers os) (sym el)
    (subst (λ (ns : List ℕ). AreOpen most ns (left_open ns opens)) (sym en) (still_open most live opens w))
