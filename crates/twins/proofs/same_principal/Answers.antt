-- `twins::same_principal` meets its contract: both principals, as they stand in the file, are compared.
use mathlib.Core.Path.{◌∙◌, ap₂}
use Rattle.infon.specs.Bytes.{alike}
use Rattle.twins.proofs.same_principal.Goals as goal

pub returns : goal.returns
returns c = c.are_alike.ensures ∙ ap₂ alike c.principal_of-mine.ensures c.principal_of-other.ensures
