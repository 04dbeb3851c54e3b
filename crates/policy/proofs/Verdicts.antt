-- The first codes, tried one after the other: which of them is given.
-- Assumes nothing.
use Prim.Native.Nat.{ℕ, ◌≤◌, ◌<◌}
use mathlib.Core.Path.{◌≡◌, sym, ◌∙◌}
use mathlib.Core.List.{List, [], ◌∷◌}
use lib.ListN.{length}
use lib.Dec.{ltb}
use borrow.Author.Tests.{lt-ltb, le-ltb, ltb-false}
use Rattle.infon.specs.Codes.{and_then, tried, passed, refused}
use Rattle.infon.specs.Policy.{entries_of, code1, code2, code3}
use Rattle.infon.proofs.Tried.{and_then_passed, when_passed, when_true, when_false, pass_on, stop_at, and_then_end}
use Rattle.policy.specs.Codes.{first_codes}

module _ (file : List ℕ) where
  pub check_long : 32768 < length file → refused 1 0 ≡ tried (first_codes file)
  unfolding tried first_codes code1
  check_long h =
      sym (stop_at (when_true (ltb 32768 (length file)) 1 0 (lt-ltb 32768 (length file) h)) (tried (code2 file ∷ (code3 (entries_of file) ∷ []))))

  module _ (short : length file ≤ 32768) where
    check_short : tried (first_codes file) ≡ tried (code2 file ∷ (code3 (entries_of file) ∷ []))
    unfolding tried first_codes code1
    check_short =
        pass_on (when_false (ltb 32768 (length file)) 1 0 (le-ltb 32768 (length file) short)) (tried (code2 file ∷ (code3 (entries_of file) ∷ [])))

    pub check_lines : (code place : ℕ) → code2 file ≡ refused code place → refused code place ≡ tried (first_codes file)
    unfolding tried
    check_lines code place e = sym (check_short ∙ stop_at e (tried (code3 (entries_of file) ∷ [])))

    pub check_nodes : code2 file ≡ passed → code3 (entries_of file) ≡ tried (first_codes file)
    unfolding tried
    check_nodes e = sym (check_short ∙ pass_on e (tried (code3 (entries_of file) ∷ [])) ∙ and_then_end (code3 (entries_of file)))

  -- what a file that passes is known to be
  pub check_passed : tried (first_codes file) ≡ passed → (length file ≤ 32768) × ((code2 file ≡ passed) × (code3 (entries_of file) ≡ passed))
  unfolding tried first_codes code1
  check_passed h =
      let last = and_then (code3 (entries_of file)) passed in
      let first = and_then_passed (code1 file) (and_then (code2 file) last) h in
      let second = and_then_passed (code2 file) last first.1 in (
        ltb-false 32768 (length file) (when_passed (ltb 32768 (length file)) 1 0 first.0),
        (second.0, (and_then_passed (code3 (entries_of file)) passed second.1).0),
      )
