use Rattle.std.proofs.Common.{rules, sym, subst}
use Rattle.std.specs.Str.{IsUtf8}
use Rattle.std.proofs.lemmas.Str.{IsUtf8-from_ascii}
use Rattle.console.specs.Texts.{hex_text}
use Rattle.console.proofs.Digits.{hex_ascii, ok_at_text}
use Rattle.console.proofs.show.digits.Goals as goal

pub unwrap-requires : goal.unwrap-requires
unwrap-requires c =
    ok_at_text _ _ (subst IsUtf8 (sym c.put_digits.ensures) (IsUtf8-from_ascii (hex_text c.args.bytes.now) (hex_ascii c.args.bytes.now (search rules)))) c.from_utf8.result c.from_utf8.ensures.cases
