mod Repeats
mod Numbers
mod Spreads
mod OneAnswer
