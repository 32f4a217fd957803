-- What a frame that was read says, part by part.
use Rattle.std.proofs.Common.{◌≡◌, ℕ, List, ap}
use Rattle.trau_frame.specs.declared.frames.UpFrame.{UpFrame}
use Rattle.trau_frame.specs.Frame.{data_of}
use Rattle.trau_frame.specs.UpFrame.{kind_of, class_of, UpWords, words_in, Says}

pub kind-says : (bits : List ℕ) (f : UpFrame) → Says bits f → f.kind ≡ kind_of bits
unfolding words_in
kind-says bits f says = ap (λ (w : UpWords). w.kind) says

pub class-says : (bits : List ℕ) (f : UpFrame) → Says bits f → f.class ≡ class_of bits
unfolding words_in
class-says bits f says = ap (λ (w : UpWords). w.class) says

pub data-says : (bits : List ℕ) (f : UpFrame) → Says bits f → f.d ≡ data_of bits
unfolding words_in
data-says bits f says = ap (λ (w : UpWords). w.d) says
