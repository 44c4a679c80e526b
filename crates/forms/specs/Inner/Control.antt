-- What inner functions and laws ask beside Control: no promise of an entry hangs on it. Assumes nothing.
use Rattle.std.specs.Prelude.{ℕ, Bool, ◌||◌, List}
use Rattle.lines.specs.Ascii.{ascii}
use Rattle.lines.specs.Lf.{prefixed}

-- a line, its front trimmed, that begins as one that a condition or a loop begins
abbrev pub control_front : List ℕ → Bool
control_front t =
    prefixed (ascii "while (") t
    || (prefixed (ascii "while(") t
    || (prefixed (ascii "for (") t
    || (prefixed (ascii "for(") t
    || (prefixed (ascii "if (") t
    || (prefixed (ascii "if(") t
    || (prefixed (ascii "switch (") t
    || (prefixed (ascii "switch(") t
    || prefixed (ascii "do {") t)))))))
