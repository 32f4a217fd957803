use Rattle.std.proofs.Common.{◌≡◌, ◌≢◌, ◌<◌, length, sym, ap, ◌∙◌, true, Some, ℕ, List, slice_index, min, get_or, refl, arith}
use Rattle.std.proofs.lemmas.List.Elements.{All-get_or}
use Rattle.std.proofs.lemmas.List.{get_or-map, length-map}
use Rattle.round_lines.specs.Memory.{whole_in}
use Rattle.std.specs.Global.{Box}
use Rattle.farm_rounds.specs.declared.open.OpenCall.{OpenCall}
use Rattle.farm_rounds.specs.Numbers.{is_among}
use Rattle.farm_rounds.specs.Opened.{ArePaired, Standing, standings, standing_of, no_standing, end_with, open_at}
use Rattle.farm_rounds.proofs.Places.Boxes.{at_read, standing_at, standings_long, numbered}
use Rattle.farm_rounds.proofs.calls.bridge_end.Goals as goal

-- a place in the list of numbers is one among the calls
paired_within : (live : List ℕ) (bs : List (Box OpenCall)) (k : ℕ) → ArePaired live (standings bs) → k < length live → k < length bs
paired_within live bs k paired l =
    omega (arith, l, ap length paired.listed, length-map (standings bs) (λ (s : Standing). s.number), standings_long bs)

pub index_of-other-requires-clause-present : goal.index_of-other-requires-clause-present
index_of-other-requires-clause-present c =
    let calls = c.args.calls.now in
    let own = c.deref.ensures ∙ ap (λ (b : Box OpenCall). b.value) c.index-calls-at.is ∙ at_read calls c.args.at c.index-calls-at.result c.requires.at in
    let partner = ap (λ (s : Standing). s.partner) (standing_at calls c.args.at c.requires.at) ∙ ap (λ (o : OpenCall). o.partner) (sym own) ∙ c.in-Some.is in
    (All-get_or (λ s. (d : ℕ) → s.partner ≡ Some d → (is_among c.args.live.now d ≡ true) × (d ≢ s.number)) (standings calls) c.args.at no_standing
    (omega (arith, standings_long calls, c.requires.at)) c.requires.paired.partners _ partner).0

pub bounds-calls-other : goal.bounds-calls-other
bounds-calls-other c = paired_within c.args.live.now c.args.calls.now c.index_of-other.result c.requires.paired c.index_of-other.ensures.within

-- the partner's places, by its place in the list
partner_places : (bs : _) (live : _) (k d : ℕ) → ArePaired live (standings bs) → k < length bs → k < length live → slice_index live k ≡ d →
    (open_at bs k).lines ≡ (open_at bs k).lines → (standing_of (standings bs) d).whole ≡ whole_in (open_at bs k).lines
partner_places bs live k d paired l m e r =
    let number : (j : ℕ) → j < length bs → (get_or (standings bs) j no_standing).number ≡ slice_index live j = λ j lj.
    sym (ap (λ (ns : List ℕ). slice_index ns j) paired.listed ∙ get_or-map (λ (s : Standing). s.number) (standings bs) j no_standing 0
    (omega (arith, standings_long bs, lj))) in
    ap (λ (s : Standing). s.whole)
    (numbered (standings bs) k d (omega (arith, standings_long bs, l)) (number k l ∙ e)
    (λ j lj q. absurd (let rises = paired.rising j k lj m in let same = number j (omega (arith, lj, l)) in omega (arith, rises, same, q, e)))
    ∙ standing_at bs k l)

pub returns-in-Some-clause-end : goal.returns-in-Some-clause-end
returns-in-Some-clause-end c =
    let calls = c.args.calls.now in
    let own : c.deref.result.now ≡ open_at calls c.args.at = c.deref.ensures ∙ ap (λ (b : Box OpenCall). b.value) c.index-calls-at.is ∙ at_read calls c.args.at c.index-calls-at.result c.requires.at in
    let partner : (open_at calls c.args.at).partner ≡ Some c.in-Some.partner = ap (λ (o : OpenCall). o.partner) (sym own) ∙ c.in-Some.is in
    let k = c.index_of-other.result in
    let within : k < length calls = paired_within c.args.live.now calls k c.requires.paired c.index_of-other.ensures.within in
    let mine : c.whole.result ≡ whole_in (open_at calls c.args.at).lines = c.whole.ensures.value
    ∙ ap (λ (o : OpenCall). whole_in o.lines) (c.deref-in-Some.ensures ∙ ap (λ (b : Box OpenCall). b.value) c.index-calls-at-in-Some.is ∙ at_read calls c.args.at c.index-calls-at-in-Some.result c.requires.at) in
    let other : c.whole-in-Some.result ≡ (standing_of (standings calls) c.in-Some.partner).whole = c.whole-in-Some.ensures.value
    ∙ ap (λ (o : OpenCall). whole_in o.lines) (c.deref-in-Some-2.ensures ∙ ap (λ (b : Box OpenCall). b.value) c.index-calls-other.is ∙ at_read calls k c.index-calls-other.result within)
    ∙ sym (partner_places calls c.args.live.now k c.in-Some.partner c.requires.paired within c.index_of-other.ensures.within c.index_of-other.ensures.number refl) in
    c.min.ensures ∙ ap (λ n. min n c.whole-in-Some.result) mine ∙ ap (λ n. min (whole_in (open_at calls c.args.at).lines) n) other
    ∙ sym (ap (end_with (standings calls) (whole_in (open_at calls c.args.at).lines)) partner)

pub returns-in-Some-clause-within : goal.returns-in-Some-clause-within
returns-in-Some-clause-within c =
    let calls = c.args.calls.now in
    let own : c.deref-in-Some.result.now ≡ open_at calls c.args.at = c.deref-in-Some.ensures ∙ ap (λ (b : Box OpenCall). b.value) c.index-calls-at-in-Some.is
    ∙ at_read calls c.args.at c.index-calls-at-in-Some.result c.requires.at in
    omega (arith, c.min.ensures, c.whole.ensures.bound, ap (λ (o : OpenCall). o.lines.periods) own)
