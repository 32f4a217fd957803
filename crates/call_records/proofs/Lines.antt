-- The recorded incoming lines, as the lines of a run.
use Rattle.std.proofs.Common.{◌≡◌, refl, sym, ap, ◌∙◌, ℕ, ◌*◌, List, [], ◌∷◌, ◌++◌, length, take, drop, All, arith, append_assoc, append-nil, length-append}
use Rattle.std.proofs.lemmas.List.{take_at, drop_at}
use Rattle.std.proofs.lemmas.List.Elements.{All-head, All-tail}
use Rattle.fr_sides.specs.Receiving.{ReceiverPeriod}
use Rattle.call_leg.specs.Periods.{CallPeriod}
use Rattle.call_sides.specs.Recorded.{AreRecordsOf}
use Rattle.run_spec.specs.Run.{Run, up_in, pcm_in, ups_to}
use Rattle.call_records.specs.Turns.{Turn, ups_of_turns, period_of_turn, periods_of, recorded_up, recorded_pcm}

-- each turn has 40 octets of Up, and 160 of Pcm
abbrev pub HaveUps : List Turn → Type 0
HaveUps [] = Unit {0}
HaveUps (t ∷ past) = (length t.recorded.up ≡ 40) × HaveUps past

abbrev pub HavePcms : List Turn → Type 0
HavePcms [] = Unit {0}
HavePcms (t ∷ past) = (length t.recorded.pcm ≡ 160) × HavePcms past

pub have-ups : (past : List Turn) (heard : List ReceiverPeriod) → AreRecordsOf heard (periods_of past) → HaveUps past
have-ups [] heard h = tt
have-ups (t ∷ past) [] h = absurd h
have-ups (t ∷ past) (p ∷ ps) h = (h.0.written.0, have-ups past ps h.1)

pub have-pcms : (past : List Turn) → All (λ (t : CallPeriod). length t.pcm ≡ 160) (periods_of past) → HavePcms past
have-pcms [] h = tt
have-pcms (t ∷ past) h = (
  All-head (λ (t : CallPeriod). length t.pcm ≡ 160) (period_of_turn t past) (periods_of past) h,
  have-pcms past (All-tail (λ (t : CallPeriod). length t.pcm ≡ 160) (period_of_turn t past) (periods_of past) h),
)

length-recorded_up : (past : List Turn) → HaveUps past → length (recorded_up past) ≡ 40 * length past
length-recorded_up [] h = refl
length-recorded_up (t ∷ past) h = length-append (recorded_up past) t.recorded.up ∙ omega (arith, h.0, length-recorded_up past h.1)

length-recorded_pcm : (past : List Turn) → HavePcms past → length (recorded_pcm past) ≡ 160 * length past
length-recorded_pcm [] h = refl
length-recorded_pcm (t ∷ past) h = length-append (recorded_pcm past) t.recorded.pcm ∙ omega (arith, h.0, length-recorded_pcm past h.1)

-- a part of a line at its place
part : (line front now rest : List ℕ) (m n : ℕ) → line ≡ (front ++ now) ++ rest → length front ≡ n → length now ≡ m → take m (drop n line) ≡ now
part line front now rest m n e before size =
    ap (λ (xs : List ℕ). take m (drop n xs)) (e ∙ append_assoc front now rest)
    ∙ ap (λ (xs : List ℕ). take m xs) (drop_at front (now ++ rest) n before) ∙ take_at now rest m size

-- **The period of a turn on both lines.**
pub up-at : (r : Run) (c : ℕ) (t : Turn) (past : List Turn) (rest : List ℕ) → HaveUps (t ∷ past) → (r.lines c).up ≡ recorded_up (t ∷ past) ++ rest →
    up_in r c (length past) ≡ t.recorded.up
up-at r c t past rest h e = part (r.lines c).up (recorded_up past) t.recorded.up rest 40 (40 * length past) e (length-recorded_up past h.1) h.0

pub pcm-at : (r : Run) (c : ℕ) (t : Turn) (past : List Turn) (rest : List ℕ) → HavePcms (t ∷ past) → (r.lines c).pcm ≡ recorded_pcm (t ∷ past) ++ rest →
    pcm_in r c (length past) ≡ t.recorded.pcm
pcm-at r c t past rest h e = part (r.lines c).pcm (recorded_pcm past) t.recorded.pcm rest 160 (160 * length past) e (length-recorded_pcm past h.1) h.0

-- ---- the Up line of a partner

pub ups-at : (r : Run) (c : ℕ) (past : List Turn) (rest : List ℕ) → HaveUps past → (r.lines c).up ≡ recorded_up past ++ rest →
    ups_to r c (length past) ≡ ups_of_turns past
ups-at r c [] rest h e = refl
ups-at r c (t ∷ past) rest h e =
    ap (λ (up : List ℕ). up ∷ ups_to r c (length past)) (up-at r c t past rest h e)
    ∙ ap (λ (ups : List (List ℕ)). t.recorded.up ∷ ups)
    (ups-at r c past (t.recorded.up ++ rest) h.1 (e ∙ append_assoc (recorded_up past) t.recorded.up rest))

-- later turns only append to the line
up-later : (later past : List Turn) → (more : List ℕ) × (recorded_up (later ++ past) ≡ recorded_up past ++ more)
up-later [] past = ([], sym (append-nil (recorded_up past)))
up-later (t ∷ later) past =
    let before = up-later later past in (
      before.0 ++ t.recorded.up,
      ap (λ (xs : List ℕ). xs ++ t.recorded.up) before.1 ∙ append_assoc (recorded_up past) before.0 t.recorded.up,
    )

earlier : (later past : List Turn) → HaveUps (later ++ past) → HaveUps past
earlier [] past h = h
earlier (t ∷ later) past h = earlier later past h.1

pub ups-before : (r : Run) (c : ℕ) (later past : List Turn) → HaveUps (later ++ past) → (r.lines c).up ≡ recorded_up (later ++ past) →
    ups_to r c (length past) ≡ ups_of_turns past
ups-before r c later past h e = let more = up-later later past in ups-at r c past more.0 (earlier later past h) (e ∙ more.1)
