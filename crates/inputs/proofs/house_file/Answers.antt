-- `inputs::house_file` meets its contract: each way out is a law of the definition. Assumes nothing.
use mathlib.Core.Path.{◌≡◌, sym, ap, ◌∙◌}
use mathlib.Core.Bool.{false}
use native.Mathlib.Omega.{arith}
use Rattle.inputs.specs.Files.{by_kind, ruled_head}
use Rattle.inputs.proofs.Cases.{house-short, house-ruled, house-length, house-kind, house-is}
use Rattle.inputs.proofs.house_file.Goals as goal

pub returns-then-s-lt14 : goal.returns-then-s-lt14
returns-then-s-lt14 c = house-short _ c.if-s-lt14.true

pub ruled-requires : goal.ruled-requires
ruled-requires c = omega arith

pub returns-then-ruled : goal.returns-then-ruled
returns-then-ruled c = house-ruled _ c.if-s-lt14.false (sym c.ruled.ensures ∙ c.if-ruled.true)

pub returns-then-length-ne8 : goal.returns-then-length-ne8
returns-then-length-ne8 c =
    let plain : ruled_head c.args.s.now ≡ false = sym c.ruled.ensures ∙ c.if-ruled.false in
    house-length _ _ c.if-s-lt14.false plain c.two_bytes-length.ensures c.if-length-ne8.true

pub returns-then-kind-ne1 : goal.returns-then-kind-ne1
returns-then-kind-ne1 c =
    let plain : ruled_head c.args.s.now ≡ false = sym c.ruled.ensures ∙ c.if-ruled.false in
    house-kind _ _ _ c.if-s-lt14.false plain c.two_bytes-length.ensures c.if-length-ne8.false c.two_bytes-kind.ensures c.if-kind-ne1.true

pub returns : goal.returns
returns c =
    let plain : ruled_head c.args.s.now ≡ false = sym c.ruled.ensures ∙ c.if-ruled.false in
    c.by_kind.ensures
    ∙ ap by_kind c.two_bytes.ensures
    ∙ house-is _ _ _ c.if-s-lt14.false plain c.two_bytes-length.ensures c.if-length-ne8.false c.two_bytes-kind.ensures c.if-kind-ne1.false
