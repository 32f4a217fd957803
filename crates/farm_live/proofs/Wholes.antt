-- A legal history, and the call as a whole.
use Rattle.std.proofs.Common.{◌≡◌, ℕ, List, [], ◌∷◌, ◌++◌, length, map, replicate, reverse, refl, sym, ap, ◌∙◌}
use Rattle.std.proofs.Common.{append_assoc, append-nil}
use Rattle.std.specs.List.{flat_map}
use Rattle.std.proofs.lemmas.Bool.{true≢false}
use Rattle.std.proofs.lemmas.List.Elements.{All-nil, All-cons}
use Rattle.trau_bits.specs.Bits.{bits_of}
use Rattle.call_leg.specs.Who.{Who}
use Rattle.call_leg.specs.Periods.{CallPeriod, pcm_of}
use Rattle.call_leg.specs.Out.{out_of, out_line}
use Rattle.call_leg.specs.Down.{down_line, down_now}
use Rattle.call_spec.specs.Out.{out}
use Rattle.call_spec.specs.Down.{down}
use Rattle.call_spec.specs.History.{IsCallHistory, call_of_history, up_in_history, settings_of, spans_in_history}
use Rattle.trau_bits.proofs.Joined.{bits_of-append}
use Rattle.farm_live.specs.declared.post.Post.{Post}
use Rattle.farm_live.specs.declared.post.Entry.{Entry}
use Rattle.farm_live.specs.Book.{who_at, HasPeriod, period_of, periods_after, IsWorkedFrom, IsLegal}
use Rattle.farm_live.specs.Whole.{setting, call_of_posts, outs_of, downs_of}

abbrev posts_of : List Entry → List Post
posts_of es = map (λ e. e.post) es

-- ---- the history's periods, added to those before

ups_after : (ts : List CallPeriod) (es : List Entry) → up_in_history (periods_after ts es) ≡ up_in_history ts ++ flat_map (λ p. p.up) (posts_of es)
ups_after ts [] = sym (append-nil (up_in_history ts))
ups_after ts (e ∷ es) = ups_after (period_of e.post ∷ ts) es ∙ append_assoc (up_in_history ts) e.post.up (flat_map (λ p. p.up) (posts_of es))

pcms_after : (ts : List CallPeriod) (es : List Entry) → pcm_of (periods_after ts es) ≡ pcm_of ts ++ flat_map (λ p. p.pcm) (posts_of es)
pcms_after ts [] = sym (append-nil (pcm_of ts))
pcms_after ts (e ∷ es) = pcms_after (period_of e.post ∷ ts) es ∙ append_assoc (pcm_of ts) e.post.pcm (flat_map (λ p. p.pcm) (posts_of es))

settings_after : (ts : List CallPeriod) (es : List Entry) → settings_of (periods_after ts es) ≡ settings_of ts ++ replicate (length (posts_of es)) setting
settings_after ts [] = sym (append-nil (settings_of ts))
settings_after ts (e ∷ es) = settings_after (period_of e.post ∷ ts) es ∙ append_assoc (settings_of ts) (setting ∷ []) (replicate (length (posts_of es)) setting)

spans_after : (ts : List CallPeriod) (es : List Entry) → spans_in_history (periods_after ts es) ≡ spans_in_history ts
spans_after ts [] = refl
spans_after ts (e ∷ es) = spans_after (period_of e.post ∷ ts) es

call_is : (call : ℕ) (es : List Entry) → call_of_history (who_at call) (periods_after [] es) ≡ call_of_posts call (posts_of es)
call_is call es =
    let up = ups_after [] es in
    let pcm = pcms_after [] es in
    let settings = settings_after [] es in
    let spans : reverse (spans_in_history (periods_after [] es)) ≡ [] = ap reverse (spans_after [] es) in
    λ i. record { who = who_at call; up = up i; pcm = pcm i; settings = settings i; spans = spans i }

-- ---- .. are a history of a call

plain_more : (ts : List CallPeriod) (p : Post) → HasPeriod p → IsCallHistory ts → IsCallHistory (period_of p ∷ ts)
plain_more ts p sized h = record {
  ups = All-cons (λ t. length t.up ≡ 40) (period_of p) ts sized.0 h.ups;
  pcms = All-cons (λ t. length t.pcm ≡ 160) (period_of p) ts sized.1 h.pcms;
  bridges = (h.bridges, λ e. absurd (true≢false (sym e)), λ e. absurd (true≢false (sym e)));
}

plain_after : (who : Who) (ts : List CallPeriod) (es : List Entry) → IsWorkedFrom who ts es → IsCallHistory ts → IsCallHistory (periods_after ts es)
plain_after who ts [] legal h = h
plain_after who ts (e ∷ es) legal h = plain_after who (period_of e.post ∷ ts) es legal.3 (plain_more ts e.post legal.0 h)

no_periods : IsCallHistory []
no_periods = record { ups = All-nil (λ (t : CallPeriod). length t.up ≡ 40); pcms = All-nil (λ (t : CallPeriod). length t.pcm ≡ 160); bridges = tt }

-- ---- the octets

outs_after : (who : Who) (ts : List CallPeriod) (es : List Entry) → IsWorkedFrom who ts es → out_line who (periods_after ts es) ≡ out_line who ts ++ outs_of es
outs_after who ts [] legal = sym (append-nil (out_line who ts))
outs_after who ts (e ∷ es) legal =
    outs_after who (period_of e.post ∷ ts) es legal.3 ∙ append_assoc (out_line who ts) (out_of who (period_of e.post ∷ ts)) (outs_of es)
    ∙ ap (λ (xs : List ℕ). out_line who ts ++ (xs ++ outs_of es)) (sym legal.1)

downs_after : (who : Who) (ts : List CallPeriod) (es : List Entry) → IsWorkedFrom who ts es →
    down_line who (periods_after ts es) ≡ down_line who ts ++ flat_map (λ e. bits_of e.down) es
downs_after who ts [] legal = sym (append-nil (down_line who ts))
downs_after who ts (e ∷ es) legal =
    downs_after who (period_of e.post ∷ ts) es legal.3
    ∙ append_assoc (down_line who ts) (down_now who (period_of e.post ∷ ts)) (flat_map (λ e. bits_of e.down) es)
    ∙ ap (λ (xs : List ℕ). down_line who ts ++ (xs ++ flat_map (λ e. bits_of e.down) es)) (sym legal.2)

no_bits : bits_of [] ≡ []
unfolding bits_of
no_bits = refl

bits_after : (es : List Entry) → bits_of (downs_of es) ≡ flat_map (λ e. bits_of e.down) es
bits_after [] = no_bits
bits_after (e ∷ es) = bits_of-append e.down (downs_of es) ∙ ap (λ (xs : List ℕ). bits_of e.down ++ xs) (bits_after es)

-- ---- the law

module _ (call : ℕ) (es : List Entry) (legal : IsLegal call es) where
  history : IsCallHistory (periods_after [] es)
  history = plain_after (who_at call) [] es legal no_periods

  pub out_whole : ((who : Who) (ts : List CallPeriod) → IsCallHistory ts → out_line who ts ≡ out (call_of_history who ts)) →
      outs_of es ≡ out (call_of_posts call (posts_of es))
  out_whole same = sym (outs_after (who_at call) [] es legal) ∙ same (who_at call) (periods_after [] es) history ∙ ap out (call_is call es)

  pub down_whole : ((who : Who) (ts : List CallPeriod) → IsCallHistory ts → down_line who ts ≡ down (call_of_history who ts)) →
      bits_of (downs_of es) ≡ down (call_of_posts call (posts_of es))
  down_whole same =
      bits_after es ∙ sym (downs_after (who_at call) [] es legal) ∙ same (who_at call) (periods_after [] es) history ∙ ap down (call_is call es)
