-- What the writers of prune_decls write. Assumes nothing.
use Prim.Native.Nat.{ℕ, ◌+◌, ◌-◌, ◌≤◌, ◌<◌, min}
use mathlib.Core.Path.{◌≡◌, refl, sym, ap, ◌∙◌}
use mathlib.Core.Bool.{true, false, cond}
use mathlib.Core.List.{List, [], ◌∷◌, ◌++◌, append_assoc}
use native.Mathlib.Omega.{arith}
use borrow.Author.Tests.{ltb-true}
use lib.Dec.{ltb}
use lib.ListN.{length, take, drop}
use Rattle.lines.specs.Lf.{part, up_to, lines_of, parts_of, unlines}
use Rattle.lines.specs.Acts.{act, apply}
use Rattle.lines.specs.Inner.Out.{Wrote}
use Rattle.lines.proofs.Tests.{and_left}
use Rattle.lines.proofs.LfLaws.{lines-at, lines_end, part_none}
use Rattle.lines.proofs.ActLaws.{unlines-append}
use Rattle.lines.proofs.OutLaws.{Writing, writing_start, writing-as, writing-put, writing-end}
use Rattle.text.specs.Trim.{from_of, trim_of}
use Rattle.names.specs.Names.{reg_of, reg_text, reg_word}
use Rattle.names.specs.declared.Register.{Register}
use Rattle.std.specs.declared.option.Option.{Option}
use Rattle.std.specs.declared.option.Option.TheVariants.{Some, None}
use Rattle.names.proofs.Texts.{reg-number}
use Rattle.parse.specs.Parse.{body_of, is_decl}
use Rattle.place.specs.Region.{is_header, region, region_at}
use Rattle.reading.specs.Uses.{used_in}
use Rattle.decls.specs.Decls.{keep_one, keep_names, act_of, acts_go, prune_decls_acts, prune_decls}
use Rattle.decls.specs.Inner.Decls.{stays_by, stays, line_text}
use Rattle.decls.specs.Inner.Print.{bare_name, one, kept, decl_text}
use Rattle.decls.specs.Inner.Seen.{Quiet, quiet_none, quiet-more}
use Rattle.decls.proofs.PrintLaws.{after-bare, writing-fits, act-text}
use Rattle.decls.proofs.Chunks.{chunk-open, chunk-shut, chunk-none}

-- ---- the names that stay

-- a register that was read is printed by its own digits
pub reg-bare : (t : List ℕ) (q : Register) → reg_of t ≡ Some q → reg_text q.0 ≡ bare_name 1 t
reg-bare t q h = after-bare reg_word t q.0 (reg-number t q h)

pub keep-one : (run : List (List ℕ)) (t : List ℕ) → keep_one run (reg_of t) ≡ one (stays run t) 1 t
keep-one run t = go (reg_of t) refl
  where
    go : (r : Option Register) → reg_of t ≡ r → keep_one run r ≡ one (stays_by run r) 1 t
    go None h = refl
    go (Some q) h = ap (λ (x : List ℕ). cond (used_in q.0 run) (x ∷ []) []) (reg-bare t q h)

pub names-kept : (run ps : List (List ℕ)) → keep_names run ps ≡ kept (stays run) 1 ps
unfolding keep_names kept
names-kept run [] = refl
names-kept run (p ∷ ps) =
    ap (λ (r : List (List ℕ)). r ++ keep_names run ps) (keep-one run (trim_of p))
    ∙ ap (λ (r : List (List ℕ)). one (stays run (trim_of p)) 1 (trim_of p) ++ r) (names-kept run ps)

-- ---- a line

line-decl : (run : List (List ℕ)) (l : List ℕ) → is_decl (trim_of l) ≡ true → line_text run l ≡ decl_text (take (from_of l) l) (kept (stays run) 1 (parts_of 44 (body_of (trim_of l)))) false
unfolding act_of
line-decl run l e =
    rw e (act-text (take (from_of l) l) l (keep_names run (parts_of 44 (body_of (trim_of l))))
    ∙ ap (λ (r : List (List ℕ)). decl_text (take (from_of l) l) r false) (names-kept run (parts_of 44 (body_of (trim_of l)))))

line-keep : (run : List (List ℕ)) (l : List ℕ) → is_decl (trim_of l) ≡ false → line_text run l ≡ l ++ 10 ∷ []
unfolding act_of act unlines
line-keep run l e = rw e

-- a declaration has a body
pub decl-long : (t : List ℕ) → is_decl t ≡ true → 4 < length t
unfolding is_decl
decl-long t e = ltb-true 4 (length t) (and_left (ltb 4 (length t)) _ e)

-- the same at the calls: t is the trimmed line, and a where it begins
module _ (run : List (List ℕ)) (l t : List ℕ) (z : t ≡ trim_of l) where
  pub line-decl-at : (a : ℕ) → a ≡ from_of l → (indent : List ℕ) → indent ≡ part 0 a l → is_decl t ≡ true → line_text run l ≡ decl_text indent (kept (stays run) 1 (parts_of 44 (body_of t))) false
  line-decl-at a q indent y e =
      let w : a - 0 ≡ from_of l = omega arith in
      let i : take (from_of l) l ≡ indent = ap (λ (n : ℕ). take n l) (sym w) ∙ sym y in
      line-decl run l (sym (ap is_decl z) ∙ e)
      ∙ ap (λ (x : List ℕ). decl_text x (kept (stays run) 1 (parts_of 44 (body_of (trim_of l)))) false) i
      ∙ ap (λ (x : List ℕ). decl_text indent (kept (stays run) 1 (parts_of 44 (body_of x))) false) (sym z)

-- ---- the lines, one after the other

-- what is written of lines; `run` is the region of the line above
unfoldable pub go_text : List (List ℕ) → List (List ℕ) → List ℕ
go_text ls run = unlines (apply (acts_go ls run) ls)

go-cons : (l : List ℕ) (ls run : List (List ℕ)) → go_text (l ∷ ls) run ≡ line_text (region_at l ls run) l ++ go_text ls (region_at l ls run)
unfolding go_text acts_go apply
go-cons l ls run = unlines-append (act (act_of (region_at l ls run) l) l) (apply (acts_go ls (region_at l ls run)) ls)

go-nil : (run : List (List ℕ)) → go_text [] run ≡ []
unfolding go_text acts_go apply unlines
go-nil run = refl

go_all : (ls : List (List ℕ)) → go_text ls (region ls) ≡ unlines (prune_decls ls)
unfolding go_text prune_decls prune_decls_acts
go_all ls = refl

-- the loop: the lines from c up to i stay and are yet to be written, those from i on are still to come, and a is where the region of the line above begins
pub record PruneInv (t d₀ d : List ℕ) (a c i o : ℕ) : Type 0 where
  pub c≤ : c ≤ i
  pub i≤ : i ≤ length t
  pub held : List ℕ
  pub ahead : i < length t → held ≡ part c i t
  pub shut : length t ≤ i → held ≡ unlines (lines_of (part c (length t) t))
  pub writing : Writing 0 (unlines (prune_decls (lines_of t))) (held ++ go_text (lines_of (drop i t)) (region (lines_of (drop a t)))) d₀ d o

pub prune-start : (t d : List ℕ) → length (unlines (prune_decls (lines_of t))) ≤ length d → PruneInv t d d 0 0 0 0
prune-start t d h = record {
  c≤ = omega arith;
  i≤ = omega arith;
  held = [];
  ahead = λ _. sym (part_none t 0);
  shut = λ k. chunk-none t 0 k;
  writing = writing-as (sym (go_all (lines_of t))) (writing_start 0 (unlines (prune_decls (lines_of t))) d (omega arith));
}

-- the region of the line from i to e begins at a'
pub record RunAt (t : List ℕ) (a i e a' : ℕ) : Type 0 where
  pub lines : region (lines_of (drop a' t)) ≡ region_at (part i e t) (lines_of (drop (min (e + 1) (length t)) t)) (region (lines_of (drop a t)))

pub at_same : (l : List ℕ) (ls run : List (List ℕ)) → is_header l ≡ false → run ≡ region_at l ls run
unfolding region_at
at_same l ls run e = rw e

pub at_new : (l : List ℕ) (ls run : List (List ℕ)) → is_header l ≡ true → region (l ∷ ls) ≡ region_at l ls run
unfolding region_at region
at_new l ls run e = rw e

module _ {t d₀ d : List ℕ} {a c i o : ℕ} (h : PruneInv t d₀ d a c i o) (e : ℕ) (k : i < length t) (q : e ≡ i + up_to 10 (drop i t)) (l : List ℕ) (z : l ≡ part i e t) where
  pub run-same : is_header l ≡ false → RunAt t a i e a
  run-same n = record { lines = at_same (part i e t) (lines_of (drop (min (e + 1) (length t)) t)) (region (lines_of (drop a t))) (ap is_header (sym z) ∙ n) }

  pub run-new : is_header l ≡ true → RunAt t a i e i
  run-new n = record {
    lines = ap region (lines-at t i e k q) ∙ at_new (part i e t) (lines_of (drop (min (e + 1) (length t)) t)) (region (lines_of (drop a t))) (ap is_header (sym z) ∙ n);
  }

  module _ {a' : ℕ} (m : RunAt t a i e a') where
    -- what is to come of the region and the lines after the line
    abbrev to-come : List ℕ
    to-come = go_text (lines_of (drop (min (e + 1) (length t)) t)) (region (lines_of (drop a' t)))

    text_at : go_text (lines_of (drop i t)) (region (lines_of (drop a t))) ≡ line_text (region (lines_of (drop a' t))) l ++ to-come
    text_at =
        ap (λ (ls : List (List ℕ)). go_text ls (region (lines_of (drop a t)))) (lines-at t i e k q)
        ∙ go-cons (part i e t) (lines_of (drop (min (e + 1) (length t)) t)) (region (lines_of (drop a t)))
        ∙ ap (λ (r : List (List ℕ)). line_text r (part i e t) ++ go_text (lines_of (drop (min (e + 1) (length t)) t)) r) (sym m.lines)
        ∙ ap (λ (r : List ℕ). line_text (region (lines_of (drop a' t))) r ++ to-come) (sym z)

    -- a line that is no declaration is held too
    pub prune-pass : is_decl (trim_of l) ≡ false → (i' : ℕ) → i' ≡ min (e + 1) (length t) → PruneInv t d₀ d a' c i' o
    prune-pass n i' x = record {
      c≤ = omega (arith, h.c≤);
      i≤ = omega arith;
      held = part c i t ++ (part i e t ++ 10 ∷ []);
      ahead = λ y. chunk-open t c i e i' h.c≤ k q x y;
      shut = λ y. chunk-shut t c i e i' h.c≤ k q x y;
      writing =
          rw x
          (writing-as
          (ap (λ (r : List ℕ). r ++ go_text (lines_of (drop i t)) (region (lines_of (drop a t)))) (h.ahead k)
          ∙ ap (λ (r : List ℕ). part c i t ++ r) (text_at ∙ ap (λ (r : List ℕ). r ++ to-come) (line-keep (region (lines_of (drop a' t))) l n ∙ ap (λ (r : List ℕ). r ++ 10 ∷ []) z))
          ∙ sym (append_assoc (part c i t) (part i e t ++ 10 ∷ []) to-come))
          h.writing);
    }

    -- before a declaration what is held is written; x is that
    module _ (x : List ℕ) (y : x ≡ part c i t) where
      held-writing : Writing 0 (unlines (prune_decls (lines_of t))) (x ++ (line_text (region (lines_of (drop a' t))) l ++ to-come)) d₀ d o
      held-writing = writing-as (ap (λ (r : List ℕ). r ++ go_text (lines_of (drop i t)) (region (lines_of (drop a t)))) (h.ahead k ∙ sym y) ∙ ap (λ (r : List ℕ). x ++ r) text_at) h.writing

      pub held-room : o + length x ≤ length d
      held-room = writing-fits x _ held-writing

      -- then the declaration; run is its region
      module _ {d₁ : List ℕ} {p : ℕ} (v : Wrote d o x d₁ p) (run : List ℕ) (s : lines_of run ≡ region (lines_of (drop a' t))) where
        decl-writing : Writing 0 (unlines (prune_decls (lines_of t))) (line_text (lines_of run) l ++ to-come) d₀ d₁ p
        decl-writing = writing-as (ap (λ (r : List (List ℕ)). line_text r l ++ to-come) (sym s)) (writing-put held-writing v)

        pub prune-room : p + length (line_text (lines_of run) l) ≤ length d₁
        prune-room = writing-fits (line_text (lines_of run) l) _ decl-writing

        pub prune-on : {d₂ : List ℕ} {r i' : ℕ} → Wrote d₁ p (line_text (lines_of run) l) d₂ r → i' ≡ min (e + 1) (length t) → PruneInv t d₀ d₂ a' i' i' r
        prune-on {d₂} {r} {i'} w f = record {
          c≤ = omega arith;
          i≤ = omega arith;
          held = [];
          ahead = λ _. sym (part_none t i');
          shut = λ y. chunk-none t i' y;
          writing = rw f (writing-put decl-writing w);
        }

-- lines that are neither headers nor declarations are held too
pub prune-quiet : {t d₀ d : List ℕ} {a c i j o : ℕ} → PruneInv t d₀ d a c i o → Quiet t i j → PruneInv t d₀ d a c j o
prune-quiet h (quiet_none i) = h
prune-quiet {t = t} h (quiet-more i j e k w l q x y z) =
    let g = prune-quiet h w in
    prune-pass g e l q (part j e t) refl (run-same g e l q (part j e t) refl x) y k z

-- at the end what is held is all that is to come; x is the text from c on
module _ {t d₀ d : List ℕ} {a c i o : ℕ} (h : PruneInv t d₀ d a c i o) (k : length t ≤ i) (x : List ℕ) (y : x ≡ part c (length t) t) where
  end-writing : Writing 0 (unlines (prune_decls (lines_of t))) (unlines (lines_of x) ++ []) d₀ d o
  end-writing =
      writing-as
      (ap (λ (r : List ℕ). r ++ go_text (lines_of (drop i t)) (region (lines_of (drop a t)))) (h.shut k ∙ ap (λ (r : List ℕ). unlines (lines_of r)) (sym y))
      ∙ ap (λ (r : List ℕ). unlines (lines_of x) ++ r) (ap (λ (ls : List (List ℕ)). go_text ls (region (lines_of (drop a t)))) (lines_end t i k) ∙ go-nil (region (lines_of (drop a t)))))
      h.writing

  pub end-room : o + length (unlines (lines_of x)) ≤ length d
  end-room = writing-fits (unlines (lines_of x)) [] end-writing

  pub prune-end : {d' : List ℕ} {r : ℕ} → Wrote d o (unlines (lines_of x)) d' r → Wrote d₀ 0 (unlines (prune_decls (lines_of t))) d' r
  prune-end v = writing-end (writing-put end-writing v)
