-- `is_control_header`: a line, its front trimmed, that a condition or a loop begins. Assumes nothing.
use Rattle.std.specs.Prelude.{ℕ, Bool, ◌||◌, List}
use Rattle.lines.specs.Ascii.{ascii}
use Rattle.lines.specs.Lf.{prefixed, holds}

-- `while (`, `while(`, `for (`, `for(`, `if (`, `if(`, `switch (`, `switch(` or `do {` in front, or `: while (`, `: for (` or `} else if (` in it
unfoldable pub is_control : List ℕ → Bool
is_control t =
    prefixed (ascii "while (") t
    || (prefixed (ascii "while(") t
    || (prefixed (ascii "for (") t
    || (prefixed (ascii "for(") t
    || (prefixed (ascii "if (") t
    || (prefixed (ascii "if(") t
    || (prefixed (ascii "switch (") t
    || (prefixed (ascii "switch(") t
    || (prefixed (ascii "do {") t
    || (holds (ascii ": while (") t
    || (holds (ascii ": for (") t
    || (holds (ascii "} else if (") t)))))))))))
