-- What a pointer owns that may point to nothing.
use Rattle.std.specs.Prelude.{Bool, true, false}
use base.Fml.{Fml, ftrue}

-- what is owned where something is there, and nothing where it is not
abbrev pub owned_if : Bool → Fml → Fml
owned_if true owned = owned
owned_if false owned = ftrue
