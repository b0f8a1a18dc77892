-- What the lines say of their calls leaves nothing open. Assumes nothing.
use Rattle.paths.specs.Outcome.{Determined}
use Rattle.paths.specs.Fading.{FadePuts, FadeTakes}
use Rattle.lines.specs.Layouts.{framed, spelled}
use Rattle.lines.specs.Line.{LinePuts, LineTakes}

-- From one state and one string, one answer and one state: for both lines, and for a fade box over either.
pub record LinesDetermined : Type 0 where
  pub frame : Determined (LinePuts framed) LineTakes
  pub character : Determined (LinePuts spelled) LineTakes
  pub faded_frame : Determined (FadePuts (LinePuts framed)) (FadeTakes LineTakes)
  pub faded_character : Determined (FadePuts (LinePuts spelled)) (FadeTakes LineTakes)
