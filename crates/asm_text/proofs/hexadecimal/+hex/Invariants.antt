use Rattle.asm_text.proofs.hexadecimal.+hex.Given as goal

abbrev pub decreases-hex : goal.decreases-hex
decreases-hex l = l.number
