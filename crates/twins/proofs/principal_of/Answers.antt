-- `twins::principal_of` meets its contract: the token that begins behind the letter and a space is the principal.
use mathlib.Core.Path.{◌∙◌, ap}
use Prim.Native.Nat.{ℕ, ◌+◌}
use Rattle.spelling.specs.Token.{word_at}
use Rattle.twins.specs.Twins.{principal_text}
use Rattle.twins.proofs.principal_of.Goals as goal

pub returns : goal.returns
unfolding principal_text
returns c =
    c.word.ensures ∙ ap (λ (at : ℕ). word_at c.args.file.now (at + 2)) c.cell_at-start.ensures
