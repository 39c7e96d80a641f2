use Rattle.jo_heap_tests.proofs.asks.Ask.on.Goals as goal

pub returns-in-Put : goal.returns-in-Put
returns-in-Put g c = λ heap born. record { object = born; key = c.within-in-Put.ensures; values = c.plain.ensures heap }

pub returns-in-Cas : goal.returns-in-Cas
returns-in-Cas g c = λ heap born. record { object = born; key = c.within-in-Cas.ensures; values = (c.plain-in-Cas.ensures heap, c.plain-in-Cas-2.ensures heap) }
