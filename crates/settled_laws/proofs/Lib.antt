mod SettledTexts
