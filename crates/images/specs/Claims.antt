-- What is claimed of images, closed.
use Rattle.std.specs.Prelude.{◌≡◌, true}
use Rattle.model.specs.declared.State.{State}
use Rattle.images.specs.declared.Image.{Image}
use Rattle.images.specs.Images.{opened_of, imaged_of, stands_for}

pub record ImagesStandForStates : Type 0 where
  -- a state comes back from its image
  pub opened : (s : State) → opened_of (imaged_of s) ≡ s
  -- which stands for a state
  pub stand : (s : State) → stands_for (imaged_of s) ≡ true
  -- an image that stands for a state comes back from it
  pub imaged : (i : Image) → stands_for i ≡ true → imaged_of (opened_of i) ≡ i
