-- One period more, after any past.
use Rattle.std.proofs.Common.{◌≡◌, ℕ, suc, false, ◌+◌, ◌-◌, ◌*◌, List, [], ◌∷◌, ◌++◌, length, length-append, get_or, All, None, refl, sym, ap, ◌∙◌, subst}
use Rattle.std.proofs.Common.{arith}
use Rattle.std.proofs.lemmas.List.Elements.{All-cons, All-nil}
use Rattle.trau_bits.specs.Bits.{bits_of}
use Rattle.trau_bits.proofs.BitList.{length-bits_of}
use Rattle.frame_sync.proofs.Steps.{agrees-past, length-line_bits}
use Rattle.ccu_end.specs.Found.{FoundFrame, is_found_at, FoundFrom}
use Rattle.ccu_end.specs.Window.{index_of, AreNext, low_after}
use Rattle.ccu_end.specs.Heard.{ArePeriods, line_bits, all_of, EndsIn, AreHeard, last_bits, CcuMemory, Stands}
use Rattle.ccu_end.specs.Asked.{waiting, answered, asked, up_words}
use Rattle.ccu_end.specs.Step.{waiting_after, answer_after}
use Rattle.ccu_end.proofs.Waits.{after-append, waiting-next, answer-next}
use Rattle.ccu_end.proofs.Longer.{Shows, none-left, found-more, found-shown, not_found, no_match, none-longer}

-- the last two periods are the end of the line
shows-past : (past : List (List ℕ)) (octets : List ℕ) → ArePeriods past → length octets ≡ 40 →
    Shows (last_bits past ++ bits_of octets) (line_bits past ++ bits_of octets) (320 * length past)
shows-past past octets h count = record {
  long =
      let a = length-append (line_bits past) (bits_of octets) in
      let b = length-line_bits past h in
      let c = length-bits_of octets in
      omega arith;
  each = λ q a b i l.
      let index : index_of (320 * length past) q + i ≡ q + i + 320 - 320 * length past = omega arith in
      ap (λ k. get_or (last_bits past ++ bits_of octets) k 0) index ∙ (agrees-past past (bits_of octets) h).each (q + i) (omega arith) (omega arith);
}

-- what is found in the window ends in its period
ends-next : (window : List ℕ) (base low k : ℕ) (fs : List FoundFrame) → base ≡ 320 * k → AreNext window base low fs → All (EndsIn k) fs
ends-next window base low k [] e n = All-nil (EndsIn k)
ends-next window base low k (f ∷ fs) e n =
    let ends = n.0.ends in
    let within = n.0.within in
    All-cons (EndsIn k) f fs (omega arith, omega arith) (ends-next window base (f.place + 316) k fs e n.1)

-- one period more of found frames
pub heard-next : (past : List (List ℕ)) (octets : List ℕ) (heard : List (List FoundFrame)) (fs : List FoundFrame) → ArePeriods past → length octets ≡ 40 →
    AreHeard past heard →
    AreNext (last_bits past ++ bits_of octets) (320 * length past) (low_after 0 (all_of heard)) fs → AreHeard (octets ∷ past) (fs ∷ heard)
unfolding all_of line_bits
heard-next past octets heard fs h count a n =
    let long = length-line_bits past h in
    let new : FoundFrom (line_bits past ++ bits_of octets) (low_after 0 (all_of heard)) fs =
    found-shown (last_bits past ++ bits_of octets) (line_bits past ++ bits_of octets) (320 * length past) (low_after 0 (all_of heard)) fs
    (shows-past past octets h count) n
    (λ q l b.
    let all = length-append (line_bits past) (bits_of octets) in
    no_match (line_bits past ++ bits_of octets) q (omega arith)
    (none-longer (line_bits past) (bits_of octets) q (omega arith) (none-left (line_bits past) 0 (all_of heard) a.all q l))) in
    record {
      count = ap suc a.count;
      all = found-more (line_bits past) (bits_of octets) 0 (all_of heard) fs a.all new;
      each = (
        ends-next (last_bits past ++ bits_of octets) (320 * length past) (low_after 0 (all_of heard)) (length heard) fs
            (ap (λ k. 320 * k) (sym a.count)) n,
        a.each,
      );
    }

-- what one period does to what is kept
pub record Went (memory after : CcuMemory) (octets : List ℕ) (fs : List FoundFrame) : Type 0 where
  pub frames : AreNext (memory.last ++ bits_of octets) (320 * memory.periods) memory.low fs
  pub low : after.low ≡ low_after memory.low fs
  pub counted : after.periods ≡ memory.periods + 1
  pub last : after.last ≡ bits_of octets
  pub want : after.want ≡ memory.want
  pub waiting : after.waiting ≡ waiting_after memory.waiting memory.low memory.want fs
  pub answer : after.answer ≡ answer_after memory.waiting memory.low memory.want fs

-- so what is kept stands for one more
pub stands-next : (memory after : CcuMemory) (octets : List ℕ) (fs : List FoundFrame) → length octets ≡ 40 → Went memory after octets fs →
    (past : List (List ℕ)) (heard : List (List FoundFrame)) → Stands past heard memory → Stands (octets ∷ past) (fs ∷ heard) after
unfolding last_bits all_of
stands-next memory after octets fs count w past heard s =
    let frames : AreNext (last_bits past ++ bits_of octets) (320 * length past) (low_after 0 (all_of heard)) fs =
    subst (λ low. AreNext (last_bits past ++ bits_of octets) (320 * length past) low fs) s.low
    (subst (λ k. AreNext (last_bits past ++ bits_of octets) (320 * k) memory.low fs) s.periods
    (subst (λ last. AreNext (last ++ bits_of octets) (320 * memory.periods) memory.low fs) s.last w.frames)) in
    let a = w.counted in
    let b = s.periods in
    record {
      whole = All-cons (λ o. length o ≡ 40) octets past count s.whole;
      found = heard-next past octets heard fs s.whole count s.found frames;
      periods = omega arith;
      last = w.last;
      low = w.low ∙ ap (λ low. low_after low fs) s.low ∙ sym (after-append 0 (all_of heard) fs);
      waiting =
          w.waiting ∙ ap (λ x. waiting_after x memory.low memory.want fs) s.waiting ∙
          ap (λ low. waiting_after (waiting [] (answered memory.want heard)) low memory.want fs) s.low ∙
          waiting-next memory.want fs heard ∙ ap (λ want. waiting [] (answered want (fs ∷ heard))) (sym w.want);
      answer =
          w.answer ∙ ap (λ x. answer_after x memory.low memory.want fs) s.waiting ∙
          ap (λ low. answer_after (waiting [] (answered memory.want heard)) low memory.want fs) s.low ∙
          answer-next memory.want fs heard ∙ ap (λ want. asked want (fs ∷ heard)) (sym w.want);
    }

-- nothing is found in no bits
none-found : (q : ℕ) → is_found_at [] q ≡ false
none-found q = not_found [] q (λ h. absurd (omega arith))

pub heard-none : AreHeard [] []
unfolding all_of line_bits
heard-none = record { count = refl; all = λ q l. none-found q; each = tt }

-- what is kept before the first period
pub stands-first : (memory : CcuMemory) → memory.periods ≡ 0 → memory.last ≡ last_bits [] → memory.low ≡ 0 → memory.waiting ≡ None →
    memory.answer ≡ up_words None 0 → Stands [] [] memory
unfolding all_of line_bits waiting answered asked
stands-first memory a b c d e = record {
  whole = All-nil (λ o. length o ≡ 40);
  found = heard-none;
  periods = a;
  last = b;
  low = c;
  waiting = d;
  answer = e;
}
