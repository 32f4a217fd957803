-- The lines of a call that failed, side by side.
use Rattle.std.proofs.Common.{◌≡◌, sym, ◌∙◌, ℕ, ◌+◌, ◌<◌, true, false, Some, None, List, [], ◌∷◌, ◌++◌, get_or, map, take, append-nil}
use Rattle.std.specs.List.{filter_map}
use Rattle.std.proofs.lemmas.List.{map-append, get_or_default}
use Rattle.trau_io.specs.declared.line.Line.{Line}
use Rattle.trau_io.specs.declared.line.Side.{Side}
use Rattle.trau_io.specs.declared.line.Side.TheVariants.{Up}
use Rattle.round_lines.specs.Memory.{LinesMemory, fails_in, sides, line_name, name_where_failed}
use Rattle.round_lines.proofs.Listing.{listed_more}

module _ (p : LinesMemory) (i : ℕ) (base : List (ℕ × Side)) (lines : List Line) (within : i < 4) (so_far : map line_name lines
    ≡ base ++ filter_map (name_where_failed p) (take i sides)) where
  abbrev side : Side
  side = get_or sides i Up

  is : side ≡ get_or sides i side
  is = get_or_default sides i Up side within

  pub named_more : (line : Line) → fails_in p side ≡ true → line.call ≡ p.call → line.side ≡ side → map line_name (lines ++ line ∷ [])
      ≡ base ++ filter_map (name_where_failed p) (take (i + 1) sides)
  named_more line fails call at =
      let named : name_where_failed p side ≡ Some (line_name line) = cc in
      map-append line_name lines (line ∷ []) ∙ listed_more (name_where_failed p) sides i base (map line_name lines) side (Some (line_name line)) within is named
      so_far

  pub none_more : fails_in p side ≡ false → map line_name lines ≡ base ++ filter_map (name_where_failed p) (take (i + 1) sides)
  none_more sound =
      let unnamed : name_where_failed p side ≡ None = cc in
      sym (append-nil (map line_name lines)) ∙ listed_more (name_where_failed p) sides i base (map line_name lines) side None within is unnamed so_far
