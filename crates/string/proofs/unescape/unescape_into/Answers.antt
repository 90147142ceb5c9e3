-- The bytes that were put are those of the scalar value.
use Rattle.std.proofs.Common.{◌≡◌, ◌∙◌, sym, refl, Ok}
use Rattle.rules.specs.Utf8.{encode}
use Rattle.output.specs.Places.{Put}
use Rattle.output.proofs.Overwritten.{put-ok}
use Rattle.utf8.specs.Meaning.{encoded_meant}
use Rattle.string.proofs.Escapes.{unescape-on}
use Rattle.string.proofs.unescape.unescape_into.Goals as goal

pub returns-in-Ok-clause-unescapes : goal.returns-in-Ok-clause-unescapes
returns-in-Ok-clause-unescapes c =
    let u = c.in_ok-u.u in
    let bytes : encoded_meant c.encode.result ≡ encode u = c.encode.ensures ∙ rw c.in_ok-u.ensures.scalar refl in
    let put : Put (encode u) c.args.output.now (Ok c.in-Ok.field-0) c.put_encoded.new.output = rw bytes at (rw c.in-Ok.is at c.put_encoded.ensures) in
    let fits = put-ok put in
    rw fits.2 (unescape-on (sym c.in_ok-u.ensures.value) fits.0 fits.1)
