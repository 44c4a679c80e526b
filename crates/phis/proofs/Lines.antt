-- Laws of what a line is to `prune_dead_phis`: a declaration of phis, a store of a phi, a read of one. Assumes nothing.
use Prim.Native.Nat.{ℕ, ◌-◌, ◌≤◌, ◌<◌, ◌^◌}
use mathlib.Core.Path.{◌≡◌, refl, sym, ◌∙◌}
use mathlib.Core.Bool.{Bool, true, false, ◌&&◌}
use mathlib.Core.List.{List}
use native.Mathlib.Omega.{arith}
use borrow.Author.Tests.{lt-ltb, le-ltb, ltb-true}
use lib.Dec.{ltb}
use lib.ListN.{length, length-append}
use Rattle.lines.specs.Lf.{part, parts_of, prefixed, ends_in}
use Rattle.lines.proofs.Tests.{and_left}
use Rattle.names.specs.Names.{phi_word, phi_text, decimal, phi_of, phi_is}
use Rattle.std.specs.declared.option.Option.{Option}
use Rattle.names.specs.declared.Phi.{Phi}
use Rattle.std.specs.declared.option.Option.TheVariants.{Some, None}
use Rattle.names.proofs.Texts.{phi-text-names}
use Rattle.parse.specs.Parse.{let_word, body_of, is_let}
use Rattle.words.specs.Inner.Runs.{words_of}
use Rattle.words.specs.Hits.{hits}
use Rattle.words.proofs.HitLaws.{hits-words}
use Rattle.reading.specs.Assign.{is_assign, left_of}
use Rattle.phis.specs.Phis.{all_phis, phi_decl, any_phi, phi_store, phi_own}

-- ---- a text, its front trimmed

module _ (t : List ℕ) where
  pub let-short : length t ≤ 4 → is_let t ≡ false
  unfolding is_let
  let-short h = rw (le-ltb 4 (length t) h)

  pub let-other : prefixed let_word t ≡ false → is_let t ≡ false
  unfolding is_let
  let-other h = rw h (go (ltb 4 (length t)))
    where
      go : (b : Bool) → b && false ≡ false
      go true = refl
      go false = refl

  pub let-ends : 4 < length t → prefixed let_word t ≡ true → is_let t ≡ ends_in 59 t
  unfolding is_let
  let-ends h e = rw (lt-ltb 4 (length t) h, e)

  pub let-long : is_let t ≡ true → 4 < length t
  unfolding is_let
  let-long e = ltb-true 4 (length t) (and_left (ltb 4 (length t)) (prefixed let_word t && ends_in 59 t) e)

  pub decl-other : is_let t ≡ false → phi_decl t ≡ false
  unfolding phi_decl
  decl-other e = rw e

  pub decl-let : (body : List ℕ) → body ≡ part 4 (length t - 1) t → is_let t ≡ true → phi_decl t ≡ all_phis (parts_of 44 body)
  unfolding phi_decl
  decl-let body z e = rw (e, z)

  pub decl-long : phi_decl t ≡ true → 4 < length t
  unfolding phi_decl
  decl-long e = let-long (and_left (is_let t) (all_phis (parts_of 44 (body_of t))) e)

  pub store-let : is_let t ≡ true → phi_store t ≡ None
  unfolding phi_store
  store-let e = rw e

  pub store_other : is_let t ≡ false → is_assign t ≡ false → phi_store t ≡ None
  unfolding phi_store
  store_other e a = rw (e, a)

  pub store_of : (x : List ℕ) → x ≡ left_of t → is_let t ≡ false → is_assign t ≡ true → phi_store t ≡ phi_of x
  unfolding phi_store
  store_of x z e a = rw (e, a, z)

  module _ (p : ℕ) where
    pub own-store : (n : Option Phi) → n ≡ phi_store t → phi_is p n ≡ true → phi_own p t ≡ true
    unfolding phi_own
    own-store n z e = rw (← z, e)

    pub own-other : (n : Option Phi) → n ≡ phi_store t → phi_is p n ≡ false → phi_decl t ≡ false → phi_own p t ≡ false
    unfolding phi_own
    own-other n z e d = rw (← z, e, d)

    pub own-decl : (n : Option Phi) → n ≡ phi_store t → phi_is p n ≡ false → phi_decl t ≡ true → (body : List ℕ) → body ≡ part 4 (length t - 1) t → phi_own p t ≡ any_phi p (parts_of 44 body)
    unfolding phi_own
    own-decl n z e d body y = rw (← z, e, d, y)

-- ---- a line

-- the text of a phi is found exactly where it stands as a run
pub phi-hits : (p : ℕ) → p < 2 ^ 64 → (l : List ℕ) (n : ℕ) → n ≡ words_of (phi_text p) l → length (hits (phi_text p) l) ≡ n
phi-hits p h l n w = hits-words (phi_text p) (omega (arith, length-append phi_word (decimal p))) (phi-text-names p h) l ∙ sym w
