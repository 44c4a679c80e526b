-- Tests one after the other, `a | b | c`, bracketed from the left and from the right, and those of a control header. Assumes nothing.
use Prim.Native.Nat.{ℕ}
use mathlib.Core.Path.{◌≡◌, refl, sym, ap, ◌∙◌}
use mathlib.Core.Bool.{Bool, ◌||◌, or_assoc}
use mathlib.Core.List.{List, [], ◌∷◌, ◌++◌}
use Rattle.lines.specs.Ascii.{ascii}
use Rattle.lines.specs.Lf.{prefixed, holds}
use Rattle.forms.specs.Control.{is_control}
use Rattle.forms.specs.Inner.Control.{control_front}

-- as the code brackets them
abbrev pub left_or : Bool → List Bool → Bool
left_or a [] = a
left_or a (b ∷ bs) = left_or (a || b) bs

-- as the definitions do
abbrev pub right_or : Bool → List Bool → Bool
right_or a [] = a
right_or a (b ∷ bs) = a || right_or b bs

right-or : (a b : Bool) (bs : List Bool) → right_or (a || b) bs ≡ a || right_or b bs
right-or a b [] = refl
right-or a b (c ∷ bs) = or_assoc a b (right_or c bs)

pub ors : (a : Bool) (bs : List Bool) → left_or a bs ≡ right_or a bs
ors a [] = refl
ors a (b ∷ bs) = ors (a || b) bs ∙ right-or a b bs

-- those in front, and the rest
pub front-or : (a : Bool) (bs : List Bool) (c : Bool) (cs : List Bool) → right_or a (bs ++ (c ∷ cs)) ≡ right_or a bs || right_or c cs
front-or a [] c cs = refl
front-or a (b ∷ bs) c cs = ap (λ (x : Bool). a || x) (front-or b bs c cs) ∙ sym (or_assoc a (right_or b bs) (right_or c cs))

-- a line that a condition or a loop begins: by its front, or by what is in it
pub control-is : (t : List ℕ) → is_control t ≡ control_front t || (holds (ascii ": while (") t || (holds (ascii ": for (") t || holds (ascii "} else if (") t))
unfolding is_control
control-is t =
    front-or (prefixed (ascii "while (") t)
    (prefixed (ascii "while(") t ∷ prefixed (ascii "for (") t ∷ prefixed (ascii "for(") t ∷ prefixed (ascii "if (") t ∷ prefixed (ascii "if(") t ∷ prefixed (ascii "switch (") t ∷ prefixed (ascii "switch(") t ∷ prefixed (ascii "do {") t ∷ [])
    (holds (ascii ": while (") t)
    (holds (ascii ": for (") t ∷ holds (ascii "} else if (") t ∷ [])
