mod TableTexts
mod Steps
