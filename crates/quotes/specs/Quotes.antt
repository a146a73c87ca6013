-- What a call deals at a price, and which of two prices it takes. Assumes nothing.
use Rattle.std.specs.Prelude.{ℕ, ◌+◌, ◌-◌, min, Bool, cond, ◌&&◌, ◌||◌, ◌==◌, nat_lt}
use Rattle.quotes.specs.declared.quote.Quote.{Quote}

-- a price at which so many tonnes are bought, and so many sold
abbrev pub quoted : ℕ → ℕ → ℕ → Quote
quoted price bought sold = record { price = price; volume = min bought sold; imbalance = (bought - sold) + (sold - bought) }

-- whether the first is taken before the second: more tonnes, then the smaller imbalance, then the lower price
abbrev pub preferred_to : Quote → Quote → Bool
preferred_to a b =
    nat_lt b.volume a.volume || (b.volume == a.volume && (nat_lt a.imbalance b.imbalance || (a.imbalance == b.imbalance && nat_lt a.price b.price)))

-- the one that is taken of two
abbrev pub better : Quote → Quote → Quote
better a b = cond (preferred_to b a) b a

-- 0 where nothing deals
abbrev pub called_price : Quote → ℕ
called_price q = cond (q.volume == 0) 0 q.price
