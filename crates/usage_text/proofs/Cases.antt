-- The cases, by computation: a list, a statement.
use mathlib.Core.Path.{◌≡◌, refl}
use mathlib.Core.List.{[], map}
use Rattle.ground.specs.Chain.{refuse}
use Rattle.usages.specs.Counts.{least, most, min_of, fin_of}
use Rattle.usage_text.specs.Reading.{read, read_text, head_of, closed, prefixed, onward, chain_from, chain, read_prefixed, read_shuffle, read_choice, read_inside, is_whole}
use Rattle.usage_text.specs.Answer.{deepest, dip_of, in_range, is_reliable, weighed, usage_of}
use Rattle.usage_text.specs.Quoted.{bytes}
use Rattle.usage_text.specs.Cases.{Case, again, cases, Shape, shapes}

pub cases-hold : map (λ (c : Case). usage_of c.text) cases ≡ map (λ (c : Case). c.wanted) cases
unfolding refuse least most min_of fin_of head_of closed prefixed onward chain_from chain read_prefixed read_shuffle read_choice read_inside is_whole dip_of in_range is_reliable weighed usage_of bytes again
cases-hold = refl

pub shapes-hold : map (λ (c : Shape). read_text deepest c.shaped) shapes ≡ map (λ (c : Shape). read c.usage []) shapes
unfolding head_of closed prefixed onward chain_from chain read_prefixed read_shuffle read_choice read_inside bytes
shapes-hold = refl
