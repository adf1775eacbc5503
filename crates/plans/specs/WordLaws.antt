-- Two texts have the same word only if they are the same. Assumes nothing.
use Rattle.std.specs.Prelude.{◌≡◌, true, List, length, get_or}
use Prim.Native.Nat.{ℕ, zero, suc, ◌<◌, ◌≤◌}
use Rattle.std.proofs.Common.{arith, ext_get_or}
use borrow.Author.Tests.{eqb-true}
use Rattle.cases.specs.TestsLaws.{all_yes}
use Rattle.plans.specs.Plans.{word_of, same_tests, same_word}

-- two texts of at most seven bytes have the same word only if they are the same: SPW opens by the password alone
module _ (s t : List ℕ) (e : same_word (word_of s) (word_of t) ≡ true) where
  pub same_length : length s ≡ length t
  unfolding word_of same_word
  same_length = eqb-true (length s) (length t) (all_yes (same_tests (word_of s) (word_of t)) e).0

  same_byte : (i : ℕ) → i < 7 → get_or s i 0 ≡ get_or t i 0
  unfolding word_of same_word
  same_byte zero h = eqb-true _ _ (all_yes (same_tests (word_of s) (word_of t)) e).1.0
  same_byte (suc zero) h = eqb-true _ _ (all_yes (same_tests (word_of s) (word_of t)) e).1.1.0
  same_byte (suc (suc zero)) h = eqb-true _ _ (all_yes (same_tests (word_of s) (word_of t)) e).1.1.1.0
  same_byte (suc (suc (suc zero))) h = eqb-true _ _ (all_yes (same_tests (word_of s) (word_of t)) e).1.1.1.1.0
  same_byte (suc (suc (suc (suc zero)))) h = eqb-true _ _ (all_yes (same_tests (word_of s) (word_of t)) e).1.1.1.1.1.0
  same_byte (suc (suc (suc (suc (suc zero))))) h = eqb-true _ _ (all_yes (same_tests (word_of s) (word_of t)) e).1.1.1.1.1.1.0
  same_byte (suc (suc (suc (suc (suc (suc zero)))))) h = eqb-true _ _ (all_yes (same_tests (word_of s) (word_of t)) e).1.1.1.1.1.1.1.0
  same_byte (suc (suc (suc (suc (suc (suc (suc i))))))) h = absurd (omega arith)

  pub same_text : length s ≤ 7 → s ≡ t
  same_text l = ext_get_or 0 s t same_length (λ i h. same_byte i (omega arith))
