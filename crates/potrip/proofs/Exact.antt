-- What the reader takes is exactly what the writer writes of some listing, with other translations. Assumes nothing.
use Prim.Native.Nat.{ℕ, suc, ◌^◌, ◌<◌}
use mathlib.Core.Path.{◌≡◌, refl, sym, ap, ◌∙◌, subst}
use mathlib.Core.Bool.{Bool, true, false, cond, ◌||◌}
use mathlib.Core.List.{List, [], ◌∷◌, ◌++◌, append_assoc}
use native.Mathlib.Omega.{arith}
use borrow.Author.Tests.{le-ltb}
use lib.Dec.{ltb}
use lib.ListN.{length}
use Rattle.lines.specs.Lf.{same, lines_of}
use Rattle.lines.specs.Inner.Lf.{lacks, no_lf}
use Rattle.lines.proofs.Tests.{no, and_both, or-true}
use Rattle.lines.proofs.Compare.{same_refl}
use Rattle.text.specs.Utf8Form.{utf8_of}
use Rattle.std.specs.declared.result.Result.TheVariants.{Ok, Err}
use Rattle.po.specs.declared.PoRefusal.TheVariants as po
use Rattle.po.specs.Answers.{Strings, first_flaw, po_checked, po_text, po_answer, by_read, read_answer}
use Rattle.po.specs.declared.StringsRefusal.TheVariants as strings
use Rattle.std.specs.declared.option.Option.TheVariants.{Some, None}
use Rattle.po.specs.declared.Flaw.TheVariants as flaw
use Rattle.po.specs.Found.{Entry, empty, literals}
use Rattle.po.specs.Form.{id_word, str_word, escaped, quoted, ref_line, head_lines, entry_lines}
use Rattle.po.specs.Name.{is_file_name}
use Rattle.po.specs.Reader.{State, Read, bad, good, start, read_go, read_of, given}
use Rattle.potrip.specs.Written.{Message, entries_of, Translated, no-string, string-on, message_lines, ids_on, strs_on, Written, Taken}
use Rattle.potrip.proofs.Cut.{parts-unlines, ref-lacks, quoted-lacks}
use Rattle.potrip.proofs.Order.{Climbs, none, climb, entries-climb-lines}
use Rattle.potrip.proofs.Distinct.{Fresh, fresh, entries-fresh}
use Rattle.potrip.proofs.Distinct as distinct
use Rattle.potrip.proofs.Utf.{utf-of, utf-valid}
use Rattle.potrip.proofs.Texts.{Valids, no-entry, entry-on, entries-valid}
use Rattle.potrip.proofs.Names.{name-lf}
use Rattle.potrip.proofs.Whole.{entry_read, head_read, answer-done}
use Rattle.potrip.proofs.Only.{Sounds, no_row, row_on, read_only}
use Rattle.potrip.proofs.Listing.{listing_of, listing-few, listing-valid, listing-entries, listing-fine}

-- ---- what is written is read

rows-lf : (name : List ℕ) (rs : List Message) → lacks 10 name ≡ true → no_lf (message_lines name rs) ≡ true
unfolding entry_lines no_lf lacks
rows-lf name [] h = refl
rows-lf name (r ∷ rs) h =
    and_both {a = lacks 10 (ref_line name r.entry.line)} (ref-lacks name r.entry.line h)
    (and_both {a = lacks 10 (quoted id_word r.entry.text)} (quoted-lacks id_word r.entry.text refl)
    (and_both {a = lacks 10 (quoted str_word r.str)} (quoted-lacks str_word r.str refl) (rows-lf name rs h)))

file-lf : (name : List ℕ) (rs : List Message) → lacks 10 name ≡ true → no_lf (head_lines ++ message_lines name rs) ≡ true
unfolding no_lf lacks escaped
file-lf name rs h = rows-lf name rs h

abbrev state : ℕ → List ℕ → ℕ → List (List ℕ) → List (List ℕ) → State
state a name m ids strs = record { awaits = a; name = name; least = m; ids = ids; strs = strs }

rows-read : (name : List ℕ) → is_file_name name ≡ true → (rs : List Message) (n : ℕ) (a : List ℕ) (m : ℕ) (ids strs : List (List ℕ)) → empty a || same a name ≡ true → Sounds m ids rs →
    read_go (message_lines name rs ++ [] ∷ []) n (state 3 a m ids strs) ≡ good (ids_on rs ids) (strs_on rs strs)
unfolding read_go
rows-read name i [] n a m ids strs w s = refl
rows-read name i (r ∷ rs) n a m ids strs w (row_on s t) =
    ap (λ (ls : List (List ℕ)). read_go ls n (state 3 a m ids strs)) (append_assoc (entry_lines name r.entry r.str) (message_lines name rs) ([] ∷ []))
    ∙ entry_read name i r.entry r.str (message_lines name rs) n a m ids strs w s.rises s.small s.some s.new s.text s.string
    ∙ rows-read name i rs (suc (suc (suc (suc n)))) name r.entry.line (r.entry.text ∷ ids) (r.str ∷ strs) (ap (λ (x : Bool). empty name || x) (same_refl name) ∙ or-true (empty name)) t

sounds-of : {b : ℕ} → b < 2 ^ 64 → (rs : List Message) (m : ℕ) (ids : List (List ℕ)) → Climbs b m (entries_of rs) → Fresh ids (entries_of rs) → Valids (entries_of rs) → Translated rs → Sounds m ids rs
sounds-of h [] m ids c f v s = no_row
sounds-of h (r ∷ rs) m ids (climb p q c) (fresh z k f) (entry-on u v) (string-on t s) =
    row_on (record { rises = p; small = omega (arith, h, q); some = z; new = k; text = u; string = utf-of r.str t }) (sounds-of h rs r.entry.line (r.entry.text ∷ ids) c f v s)

pub written_read : (file : List ℕ) (w : Written file) → read_of file ≡ good (ids_on w.rows []) (strs_on w.rows [])
unfolding read_of
written_read file w =
    let p = answer-done w.name w.listing (length (po_text w.name w.listing)) (length (po_text w.name w.listing)) w.done in
    let e = sym w.same_entries in
    let s = sounds-of w.few w.rows 1 [] (subst (λ (es : List Entry). Climbs (length (lines_of w.listing)) 1 es) e (entries-climb-lines w.listing))
    (subst (λ (es : List Entry). Fresh [] es) e (entries-fresh w.listing)) (subst Valids e (entries-valid w.listing p.1)) w.translated in
    ap read_of w.bytes
    ∙ ap (λ (ls : List (List ℕ)). read_go ls 0 start) (parts-unlines (head_lines ++ message_lines w.name w.rows) (file-lf w.name w.rows (name-lf w.name p.0)))
    ∙ ap (λ (ls : List (List ℕ)). read_go ls 0 start) (append_assoc head_lines (message_lines w.name w.rows) ([] ∷ []))
    ∙ head_read (message_lines w.name w.rows)
    ∙ rows-read w.name p.0 w.rows 3 [] 1 [] [] refl s

-- ---- what is read was written

climbs-of : {m : ℕ} {ids : List (List ℕ)} {rs : List Message} → Sounds m ids rs → Climbs 0xFFFFFFFFFFFFFFFF m (entries_of rs)
climbs-of no_row = none
climbs-of (row_on s t) = let z = s.small in climb s.rises (omega (arith, z)) (climbs-of t)

fresh-of : {m : ℕ} {ids : List (List ℕ)} {rs : List Message} → Sounds m ids rs → Fresh ids (entries_of rs)
fresh-of no_row = distinct.none
fresh-of (row_on s t) = fresh s.some s.new (fresh-of t)

valids-of : {m : ℕ} {ids : List (List ℕ)} {rs : List Message} → Sounds m ids rs → Valids (entries_of rs)
valids-of no_row = no-entry
valids-of (row_on s t) = entry-on s.text (valids-of t)

strings-of : {m : ℕ} {ids : List (List ℕ)} {rs : List Message} → Sounds m ids rs → Translated rs
strings-of no_row = no-string
strings-of (row_on s t) = string-on (utf-valid s.string) (strings-of t)

answer-of : (name t : List ℕ) → is_file_name name ≡ true → utf8_of t ≡ Ok tt → first_flaw (literals t) ≡ None → po_answer name t (length (po_text name t)) ≡ Ok (length (po_text name t))
unfolding po_answer po_checked
answer-of name t i v f =
    let z : ltb (length (po_text name t)) (length (po_text name t)) ≡ false = le-ltb (length (po_text name t)) (length (po_text name t)) (omega arith) in
    rw (i, v, f, z) refl

pub read-is-written : (file : List ℕ) (ids strs : List (List ℕ)) → read_of file ≡ good ids strs → Written file
read-is-written file ids strs h =
    let f = read_only file ids strs h in
    let c = climbs-of f.sounds in
    let few = listing-few (entries_of f.rows) (omega arith) c in
    record {
      name = f.name;
      listing = listing_of (entries_of f.rows);
      done = answer-of f.name (listing_of (entries_of f.rows)) f.is_name (listing-valid (valids-of f.sounds)) (listing-fine (entries_of f.rows) c);
      few = omega (arith, few);
      rows = f.rows;
      same_entries = sym (listing-entries (entries_of f.rows) c (fresh-of f.sounds));
      translated = strings-of f.sounds;
      bytes = f.bytes;
    }

-- ---- by the words of the two contracts: `read_po` refuses no line of a file exactly where it is written so

abbrev is_bad : Strings → Bool
is_bad (Ok n) = false
is_bad (Err (strings.BadLine n)) = true
is_bad (Err (strings.Short n)) = false

pub taken-exactly : (file : List ℕ) (room : ℕ) → (Taken file room → Written file) × (Written file → Taken file room)
unfolding read_answer
taken-exactly file room = (λ t. to (read_of file) refl t, λ w n e. from n (written_read file w) e)
  where
    to : (r : Read) → read_of file ≡ r → ((n : ℕ) → by_read (read_of file) room ≡ Err (strings.BadLine n) → ⊥) → Written file
    to (bad n) q t = absurd (t n (ap (λ (r : Read). by_read r room) q))
    to (good ids strs) q t = read-is-written file ids strs q

    pick : (b : Bool) (k : ℕ) → is_bad (cond b (Err (strings.Short k)) (Ok k)) ≡ false
    pick true k = refl
    pick false k = refl

    from : {ids strs : List (List ℕ)} (n : ℕ) → read_of file ≡ good ids strs → by_read (read_of file) room ≡ Err (strings.BadLine n) → ⊥
    from {ids} {strs} n q e = no (sym (pick (ltb room (length (given ids strs []))) (length (given ids strs []))) ∙ ap is_bad (ap (λ (r : Read). by_read r room) (sym q) ∙ e))
