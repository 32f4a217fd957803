-- The text of a drill's orders is in the grammar, and short enough.
use Rattle.std.proofs.Common.{◌≡◌, ℕ, zero, suc, ◌+◌, ◌-◌, ◌*◌, ◌/◌, ◌^◌, ◌<◌, ◌≤◌, Bool, true, false, List, [], ◌∷◌, ◌++◌, length, map, get_or, eqb, add-one}
use Rattle.std.proofs.Common.{refl, sym, ap, ◌∙◌, subst, arith}
use Rattle.std.specs.Prelude.{codes, decimal, filter, not, if◌then◌else◌}
use Rattle.std.specs.List.{range_with_len, list_all}
use Rattle.std.proofs.lemmas.Bool.{ne_eqb}
use Rattle.std.proofs.lemmas.Fmt.{digits_decimal, length-decimal-le}
use Rattle.std.proofs.lemmas.List.{length-append, length-map, append_assoc, append-nil, get_or-map}
use Rattle.std.proofs.lemmas.List.Elements.{All-append, All-from_get_or, All-weaker}
use Rattle.std.proofs.lemmas.List.FromFn.{length-range_with_len}
use Rattle.std.proofs.lemmas.List.Sums.{AllPass-from_list_all}
use Rattle.std.specs.Str.Parse.{AllDigits}
use Rattle.std.proofs.lemmas.Str.Parse.{numerals_by_value, tells_digits, digit_at}
use Rattle.trau_orders.specs.declared.order.Order.{Order}
use Rattle.trau_orders.specs.Grammar.{IsInRange, order_line}
use Rattle.decimal_number.specs.Splits.{Lacks}
use Rattle.trau_orders.specs.Text.{text_lines, AreLines, IsWithin}
use Rattle.trau_orders.proofs.TextLines.{first_line, no_line}
use Rattle.farm_drill.specs.Orders.{opening, bridging, unbridging, is_bridged, bridged_calls, drilled_orders, text_of}

-- ---- octets that aren't an LF

lacks_digits : (n : ℕ) → n < 2 ^ 64 → Lacks 10 (decimal n)
lacks_digits n small =
    All-from_get_or (λ b. eqb b 10 ≡ false) (decimal n) 0
    (λ i within. let digit = digit_at (decimal n) i (digits_decimal (numerals_by_value (AllDigits 10) tells_digits) n small) within in
    ne_eqb _ 10 (λ e. absurd (omega (arith, e, digit.0))))

not_true : (b : Bool) → not b ≡ true → b ≡ false
not_true true e = cc
not_true false e = refl

lacks_letters : (word : List ℕ) → list_all (λ b. not (eqb b 10)) word ≡ true → Lacks 10 word
lacks_letters word all =
    All-weaker (λ b. not (eqb b 10) ≡ true) (λ b. eqb b 10 ≡ false) (λ b e. not_true (eqb b 10) e) word (AllPass-from_list_all (λ b. not (eqb b 10)) word all)

lacks_both : (xs ys : List ℕ) → Lacks 10 xs → Lacks 10 ys → Lacks 10 (xs ++ ys)
lacks_both xs ys = All-append (λ b. eqb b 10 ≡ false) xs ys

-- ---- an order of a drill

record Fits (o : Order) : Type 0 where
  pub stamp : o.stamp ≤ 4294967294
  pub in_range : IsInRange o.what
  pub one_line : Lacks 10 (order_line o)
  pub short : length (order_line o) ≤ 63

fits-opening : (call : ℕ) → 1 ≤ call → call ≤ 256 → Fits (opening call)
unfolding order_line
fits-opening call low high = record {
  stamp = omega arith;
  in_range = (low, omega (arith, high));
  one_line = lacks_both (decimal 0) (codes " open " ++ decimal call) (lacks_digits 0 (omega arith))
      (lacks_both (codes " open ") (decimal call) (lacks_letters (codes " open ") refl) (lacks_digits call (omega (arith, high))));
  short = (let n = length-decimal-le 10 call (omega arith) (omega (arith, high)) (omega (arith, high)) in
      let z = length-decimal-le 10 0 (omega arith) (omega arith) (omega arith) in
      omega (arith, n, z, length-append (decimal 0) (codes " open " ++ decimal call)));
}

fits-bridging : (periods call : ℕ) → periods ≤ 1000 → 1 ≤ call → call ≤ 255 → Fits (bridging periods call)
unfolding order_line
fits-bridging periods call few low high =
    let q : periods / 4 < 1000 = omega (arith, few) in
    let more : call + 1 < 1000 = omega (arith, high) in
    let rest : List ℕ = codes " bridge " ++ (decimal call ++ (codes " " ++ decimal (call + 1))) in
    let a = length-decimal-le 10 (periods / 4) (omega arith) (omega (arith, q)) (omega (arith, q)) in
    let b = length-decimal-le 10 call (omega arith) (omega (arith, high)) (omega (arith, high)) in
    let d = length-decimal-le 10 (call + 1) (omega arith) (omega (arith, more)) (omega (arith, more)) in
    record {
      stamp = omega (arith, q);
      in_range = ((low, omega (arith, high)), (omega arith, omega (arith, high)));
      one_line = lacks_both (decimal (periods / 4)) rest (lacks_digits (periods / 4) (omega (arith, q)))
          (lacks_both (codes " bridge ") (decimal call ++ (codes " " ++ decimal (call + 1))) (lacks_letters (codes " bridge ") refl)
          (lacks_both (decimal call) (codes " " ++ decimal (call + 1)) (lacks_digits call (omega (arith, high)))
          (lacks_both (codes " ") (decimal (call + 1)) (lacks_letters (codes " ") refl) (lacks_digits (call + 1) (omega (arith, more))))));
      short = omega (arith, a, b, d, length-append (decimal (periods / 4)) rest, length-append (decimal call) (codes " " ++ decimal (call + 1)));
    }

fits-unbridging : (periods call : ℕ) → periods ≤ 1000 → 1 ≤ call → call ≤ 256 → Fits (unbridging periods call)
unfolding order_line
fits-unbridging periods call few low high =
    let q : periods / 2 < 1000 = omega (arith, few) in
    let a = length-decimal-le 10 (periods / 2) (omega arith) (omega (arith, q)) (omega (arith, q)) in
    let b = length-decimal-le 10 call (omega arith) (omega (arith, high)) (omega (arith, high)) in
    record {
      stamp = omega (arith, q);
      in_range = (low, omega (arith, high));
      one_line = lacks_both (decimal (periods / 2)) (codes " unbridge " ++ decimal call) (lacks_digits (periods / 2) (omega (arith, q)))
          (lacks_both (codes " unbridge ") (decimal call) (lacks_letters (codes " unbridge ") refl) (lacks_digits call (omega (arith, high))));
      short = omega (arith, a, b, length-append (decimal (periods / 2)) (codes " unbridge " ++ decimal call));
    }

-- ---- all of them

AllFit : List Order → Type 0
AllFit [] = Unit {0}
AllFit (o ∷ os) = Fits o × AllFit os

fit-append : (os ps : List Order) → AllFit os → AllFit ps → AllFit (os ++ ps)
unfolding AllFit
fit-append [] ps a b = b
fit-append (o ∷ os) ps a b = (a.0, fit-append os ps a.1 b)

fit-range : (f : ℕ → Order) (first n : ℕ) → ((c : ℕ) → first ≤ c → c < first + n → Fits (f c)) → AllFit (map f (range_with_len first n))
unfolding AllFit
fit-range f first zero h = tt
fit-range f first (suc n) h = (h first (omega arith) (omega arith), fit-range f (first + 1) n (λ c l m. h c (omega arith) (omega arith)))

fit-some : (f : ℕ → Order) (p : ℕ → Bool) (first n : ℕ) → ((c : ℕ) → first ≤ c → c < first + n → Fits (f c)) →
    AllFit (map f (filter p (range_with_len first n)))
unfolding AllFit
fit-some f p first zero h = tt
fit-some f p first (suc n) h = by (p first) (fit-some f p (first + 1) n (λ c l m. h c (omega arith) (omega arith)))
  where
    by : (b : Bool) → AllFit (map f (filter p (range_with_len (first + 1) n))) →
        AllFit (map f (if b then first ∷ filter p (range_with_len (first + 1) n) else filter p (range_with_len (first + 1) n)))
    by true rest = (h first (omega arith) (omega arith), rest)
    by false rest = rest

fit-at : (os : List Order) (k : ℕ) (d : Order) → AllFit os → k < length os → Fits (get_or os k d)
unfolding AllFit
fit-at [] k d a l = absurd (omega arith)
fit-at (o ∷ os) zero d a l = a.0
fit-at (o ∷ os) (suc k) d a l = fit-at os k d a.1 (omega arith)

drilled-fit : (calls periods : ℕ) → calls ≤ 256 → periods ≤ 1000 → AllFit (drilled_orders calls periods)
unfolding drilled_orders bridged_calls
drilled-fit calls periods few short =
    fit-append (map opening (range_with_len 1 calls) ++ map (bridging periods) (bridged_calls calls)) (map (unbridging periods) (bridged_calls calls))
    (fit-append (map opening (range_with_len 1 calls)) (map (bridging periods) (bridged_calls calls))
    (fit-range opening 1 calls (λ c l m. fits-opening c l (omega (arith, m, few))))
    (fit-some (bridging periods) is_bridged 1 (calls - 1) (λ c l m. fits-bridging periods c short l (omega (arith, l, m, few)))))
    (fit-some (unbridging periods) is_bridged 1 (calls - 1) (λ c l m. fits-unbridging periods c short l (omega (arith, l, m, few))))

-- ---- the lines of the text

text-lines : (os : List Order) → AllFit os → text_lines (text_of os) ≡ map order_line os
unfolding AllFit text_of
text-lines [] a = no_line
text-lines (o ∷ os) a =
    ap text_lines (append_assoc (order_line o) (codes "\n") (text_of os))
    ∙ first_line (order_line o ++ 10 ∷ text_of os) (order_line o) (text_of os) (record { front_lacks = a.0.one_line; whole = refl })
    ∙ ap (λ (ls : List (List ℕ)). order_line o ∷ ls) (text-lines os a.1)

length-text : (os : List Order) → AllFit os → length (text_of os) ≤ 64 * length os
unfolding AllFit text_of
length-text [] a = omega arith
length-text (o ∷ os) a =
    let line = a.0.short in
    let rest = length-text os a.1 in
    omega (arith, line, rest, length-append (order_line o ++ codes "\n") (text_of os), length-append (order_line o) (codes "\n"))

length-some : (p : ℕ → Bool) (xs : List ℕ) → length (filter p xs) ≤ length xs
length-some p [] = omega arith
length-some p (x ∷ xs) = by (p x) (length-some p xs)
  where
    by : (b : Bool) → length (filter p xs) ≤ length xs → length (if b then x ∷ filter p xs else filter p xs) ≤ suc (length xs)
    by true h = omega (arith, h)
    by false h = omega (arith, h)

drilled-few : (calls periods : ℕ) → calls ≤ 256 → length (drilled_orders calls periods) ≤ 768
unfolding drilled_orders bridged_calls
drilled-few calls periods few =
    let openings : List Order = map opening (range_with_len 1 calls) in
    let bridgings : List Order = map (bridging periods) (bridged_calls calls) in
    let unbridgings : List Order = map (unbridging periods) (bridged_calls calls) in
    omega (
      arith,
      few,
      length-append (openings ++ bridgings) unbridgings,
      length-append openings bridgings,
      length-map (range_with_len 1 calls) opening,
      length-map (bridged_calls calls) (bridging periods),
      length-map (bridged_calls calls) (unbridging periods),
      length-range_with_len 1 calls,
      length-range_with_len 1 (calls - 1),
      length-some is_bridged (range_with_len 1 (calls - 1)),
    )

-- ---- stamps that don't fall

Rises : ℕ → List Order → Type 0
Rises low [] = Unit {0}
Rises low (o ∷ os) = (low ≤ o.stamp) × Rises o.stamp os

rises-lower : (low high : ℕ) (os : List Order) → low ≤ high → Rises high os → Rises low os
unfolding Rises
rises-lower low high [] l r = tt
rises-lower low high (o ∷ os) l r = let h = r.0 in (omega (arith, l, h), r.1)

rises-map : (f : ℕ → Order) (stamp low : ℕ) (cs : List ℕ) (os : List Order) → ((c : ℕ) → (f c).stamp ≡ stamp) → low ≤ stamp → Rises stamp os →
    Rises low (map f cs ++ os)
unfolding Rises
rises-map f stamp low [] os same l r = rises-lower low stamp os l r
rises-map f stamp low (c ∷ cs) os same l r =
    let here = same c in
    (omega (arith, here, l), rises-map f stamp (f c).stamp cs os same (omega (arith, here)) r)

rises-next : (low : ℕ) (os : List Order) (k : ℕ) (d : Order) → Rises low os → suc k < length os → (get_or os k d).stamp ≤ (get_or os (suc k) d).stamp
unfolding Rises
rises-next low [] k d r l = absurd (omega arith)
rises-next low (o ∷ []) k d r l = absurd (omega arith)
rises-next low (o ∷ p ∷ os) zero d r l = r.1.0
rises-next low (o ∷ p ∷ os) (suc k) d r l = rises-next o.stamp (p ∷ os) k d r.1 (omega arith)

drilled-rises : (calls periods : ℕ) → Rises 0 (drilled_orders calls periods)
unfolding drilled_orders Rises
drilled-rises calls periods =
    let openings : List Order = map opening (range_with_len 1 calls) in
    let bridgings : List Order = map (bridging periods) (bridged_calls calls) in
    let unbridgings : List Order = map (unbridging periods) (bridged_calls calls) in
    subst (Rises 0) (sym (append_assoc openings bridgings unbridgings))
    (rises-map opening 0 0 (range_with_len 1 calls) (bridgings ++ unbridgings) (λ c. refl) (omega arith)
    (rises-map (bridging periods) (periods / 4) 0 (bridged_calls calls) unbridgings (λ c. refl) (omega arith)
    (subst (Rises (periods / 4)) (append-nil unbridgings)
    (rises-map (unbridging periods) (periods / 2) (periods / 4) (bridged_calls calls) [] (λ c. refl) (omega arith) tt))))

-- ---- what `Orders::parse` wants to know

pub spelled : (text : List ℕ) (calls periods : ℕ) → calls ≤ 256 → periods ≤ 1000 → text ≡ text_of (drilled_orders calls periods) →
    AreLines (text_lines text) (drilled_orders calls periods)
spelled text calls periods few short same =
    let os : List Order = drilled_orders calls periods in
    let fit : AllFit os = drilled-fit calls periods few short in
    subst (λ (ls : List (List ℕ)). AreLines ls os) (sym (ap text_lines same ∙ text-lines os fit)) (record {
      one_each = length-map os order_line;
      spelled = λ k d l.
          let one : Fits (get_or os k d) = fit-at os k d fit l in
          record { stamp = one.stamp; in_range = one.in_range; spelled = get_or-map order_line os k d [] l };
      rising = λ k d l.
          subst (λ (n : ℕ). (get_or os k d).stamp ≤ (get_or os n d).stamp) (sym (add-one k))
          (rises-next 0 os k d (drilled-rises calls periods) (omega (arith, l)));
    })

pub short_enough : (text : List ℕ) (calls periods : ℕ) → calls ≤ 256 → periods ≤ 1000 → text ≡ text_of (drilled_orders calls periods) → IsWithin text
short_enough text calls periods few short same =
    let os : List Order = drilled_orders calls periods in
    let fit : AllFit os = drilled-fit calls periods few short in
    let count = drilled-few calls periods few in
    let octets = length-text os fit in
    let lines = length-map os order_line in
    let all : length text ≡ length (text_of os) = ap length same in
    let each : length (text_lines text) ≡ length (map order_line os) = ap length (ap text_lines same ∙ text-lines os fit) in
    (omega (arith, count, octets, all), omega (arith, count, lines, each))
