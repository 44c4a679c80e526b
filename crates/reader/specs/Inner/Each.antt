-- What the iterator over the records of a file has left. Assumes nothing.
use Rattle.std.specs.Prelude.{List}
use Rattle.origins.specs.declared.Went.{Went}
use Rattle.origins.specs.Form.{form_shape}
use Rattle.reader.specs.declared.each.Records.{Records}
use Rattle.reader.specs.Replies.{wents_in}

abbrev pub left : Records → List Went
left s = wents_in (form_shape s.form) s.bytes.now
