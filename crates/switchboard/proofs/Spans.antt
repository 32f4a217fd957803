-- Where a bridge's span stands among the spans.
use Rattle.std.proofs.Common.{◌≡◌, refl, sym, ap, ◌∙◌, subst, ℕ, ◌<◌, ◌≤◌, Option, Some, None, List, [], ◌∷◌, length, map, get_or, take, replicate, suc, zero}
use Rattle.std.proofs.Common.{arith}
use Rattle.std.specs.Prelude.{option_map}
use Rattle.std.specs.List.{All, AllByRecursion, cons_option, filter_map}
use Rattle.std.proofs.lemmas.List.{length-map, take-map, get_or-map, length-replicate}
use Rattle.std.proofs.lemmas.List.Elements.{All-from_recursion}
use Rattle.call_number.specs.declared.TheConstants.{NUMBERS}
use Rattle.switchboard.specs.declared.table.Bridge.{Bridge}
use Rattle.switchboard.specs.declared.table.Call.{Call}
use Rattle.switchboard.specs.declared.act.Span.{Span}
use Rattle.switchboard.specs.Ends.{span_to}
use Rattle.switchboard.specs.Rows.{Rows, IsSized, never, bridge_at_place, bridge_end_in, span_in, position_in}
use Rattle.switchboard.specs.Bridges.{no_bridge}
use Rattle.switchboard.proofs.Tables.Sizes.{rows}
use Rattle.switchboard.proofs.Lists.{somes, filter_map-somes, somes-take, somes-take-lt, somes-fewer-lt}

-- the place of a span among the spans is how many bridges before it are over
pub position-somes : (r : Rows) (k : ℕ) → position_in r k ≡ length (somes (take k (map (span_in r) r.bridges)))
position-somes r k = ap length (filter_map-somes (span_in r) (take k r.bridges) ∙ ap somes (sym (take-map (span_in r) k r.bridges)))

pub position-le : (r : Rows) (k : ℕ) → r.spans ≡ filter_map (span_in r) r.bridges → position_in r k ≤ length r.spans
position-le r k e =
    let p = position-somes r k in
    let s = ap length (e ∙ filter_map-somes (span_in r) r.bridges) in
    omega (arith, somes-take (map (span_in r) r.bridges) k, p, s)

-- the span of a bridge is among them, at its place
pub span_at : (r : Rows) (k : ℕ) (o : Option ℕ) → k < length r.bridges →
    bridge_end_in r (bridge_at_place r k) ≡ o → get_or (map (span_in r) r.bridges) k None ≡ option_map (span_to (bridge_at_place r k)) o
span_at r k o h e = get_or-map (span_in r) r.bridges k no_bridge None h ∙ ap (option_map (span_to (bridge_at_place r k))) e

pub position-lt : (r : Rows) (k v : ℕ) → r.spans ≡ filter_map (span_in r) r.bridges →
    k < length r.bridges → bridge_end_in r (bridge_at_place r k) ≡ Some v → position_in r k < length r.spans
position-lt r k v e h ended =
    let p = position-somes r k in
    let s = ap length (e ∙ filter_map-somes (span_in r) r.bridges) in
    let l = length-map r.bridges (span_in r) in
    omega (arith, somes-take-lt (map (span_in r) r.bridges) k (span_to (bridge_at_place r k) v) (omega arith) (span_at r k (Some v) h ended), p, s)

-- while a bridge has no end, there are fewer spans than bridges
pub spans-few : (r : Rows) (k : ℕ) → r.spans ≡ filter_map (span_in r) r.bridges →
    k < length r.bridges → bridge_end_in r (bridge_at_place r k) ≡ None → length r.spans < length r.bridges
spans-few r k e h ended =
    let s = ap length (e ∙ filter_map-somes (span_in r) r.bridges) in
    let l = length-map r.bridges (span_in r) in
    omega (arith, somes-fewer-lt (map (span_in r) r.bridges) k (omega arith) (span_at r k None h ended), s)

-- an empty row, and past the rows
pub never_past : (n i : ℕ) → get_or (replicate n never) i never ≡ never
never_past zero i = refl
never_past (suc n) zero = refl
never_past (suc n) (suc i) = never_past n i

pub sized-new : (bs : List Bridge) → bs ≡ [] → IsSized (replicate 4097 never) bs
sized-new bs e = record {
  all = length-replicate 4097 never;
  places = λ c. rw (never_past 4097 c) tt;
  named = λ k h. absurd (let l = ap length e in omega arith);
}

pub rows-new : (cs : List Call) (bs : List Bridge) (ss : List Span) (most : ℕ) → cs ≡ replicate 4097 never → bs ≡ [] → ss ≡ [] →
    rows cs bs ss most ≡ rows (replicate 4097 never) [] [] most
rows-new cs bs ss most p q r = cc

-- both calls of a span have an entry
abbrev pub Named : Span → Type 0
Named x = (x.a < NUMBERS) × (x.b < NUMBERS)

-- **So it is for each of them, since it is for each bridge.**
pub named_spans : (r : Rows) → IsSized r.calls r.bridges → r.spans ≡ filter_map (span_in r) r.bridges → All Named r.spans
named_spans r sized e =
    subst (All Named) (sym e) (All-from_recursion Named (filter_map (span_in r) r.bridges) (each r.bridges (λ k l. let named = sized.named in named k l)))
  where
    one : (x : Bridge) (o : Option ℕ) (ss : List Span) → (x.a < NUMBERS) × (x.b < NUMBERS) → AllByRecursion Named ss →
        AllByRecursion Named (cons_option (option_map (span_to x) o) ss)
    one x None ss n h = h
    one x (Some t) ss n h = (n, h)

    each : (bs : List Bridge) → ((k : ℕ) → k < length bs → ((get_or bs k no_bridge).a < NUMBERS) × ((get_or bs k no_bridge).b < NUMBERS)) →
        AllByRecursion Named (filter_map (span_in r) bs)
    each [] h = tt
    each (x ∷ bs) h = one x (bridge_end_in r x) (filter_map (span_in r) bs) (h 0 (omega arith)) (each bs (λ k l. h (suc k) (omega arith)))
